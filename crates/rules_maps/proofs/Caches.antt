-- Each change of a cache keeps what holds of every cache.
use Rattle.std.proofs.Common.{◌≡◌, ℕ, ◌<◌, Bool, true, false, not, ⊎_elim, List, Option, Some, None, is_some, refl, ap, sym, arith}
use Rattle.std.proofs.lemmas.Bool.{cases_eq}
use Rattle.std.proofs.lemmas.Bool.Decides.{nat_tests}
use Rattle.rules_maps.specs.Words.{put_at, line_of}
use Rattle.rules_maps.specs.Shape.{Shape, set_of}
use Rattle.rules_maps.specs.Cache.{Cache, IsCache, free_way, empty_cache}
use Rattle.rules_maps.proofs.Numbers.{LowestIs, lowest-is}
use Rattle.rules_maps.specs.CacheChange.{marked, stored, placed, placed_at, filled, invalidated, cleaned, evicted, evicted_line}
use Rattle.rules_maps.specs.CacheChange.{rolled_back}
use Rattle.rules_maps.specs.CacheChange.{read_cleared, committed, word_dropped, words_dropped}

pub empty-keeps : (sh : Shape) → IsCache sh empty_cache
unfolding empty_cache
empty-keeps sh = record {
  placed = λ s y l e. absurd (cc);
  held = λ l e. absurd (cc);
  once = λ s y z l e f. absurd (cc);
  valued = λ w h. refl;
  unread = λ w h. refl;
  modified = λ w h. absurd (cc);
  dirty = λ w h. absurd (cc);
  either = λ v w e h. refl;
  one_tag = λ v w s t e f g. absurd (cc);
}

pub marked-keeps : (sh : Shape) (w : ℕ) (c : Cache) → c.held (line_of w) ≡ true → IsCache sh c → IsCache sh (marked w c)
unfolding marked
marked-keeps sh w c here k = record {
  placed = k.placed;
  held = k.held;
  once = k.once;
  valued = λ v h. let a = k.valued v h in grind (arith, nat_tests);
  unread = λ v h. let a = k.unread v h in grind (arith, nat_tests);
  modified = λ v h. let a = k.modified v in grind (arith, nat_tests);
  dirty = λ v h. let a = k.dirty v in let b = k.either v v refl in grind (arith, nat_tests);
  either = λ v u e h. let a = k.either v u e in grind (arith, nat_tests);
  one_tag = λ v u s t e f g. let a = k.one_tag v u s t e in grind (arith, nat_tests);
}

pub stored-keeps : (sh : Shape) (w x : ℕ) (also : Bool) (c : Cache) → c.held (line_of w) ≡ true → IsCache sh c
    → IsCache sh (stored w x also c)
unfolding stored
stored-keeps sh w x also c here k = record {
  placed = k.placed;
  held = k.held;
  once = k.once;
  valued = λ v h. let a = k.valued v h in grind (arith, nat_tests);
  unread = λ v h. let a = k.unread v h in grind (arith, nat_tests);
  modified = λ v h. let a = k.modified v in grind (arith, nat_tests);
  dirty = λ v h. let a = k.dirty v in let b = k.either v v refl in grind (arith, nat_tests);
  either = λ v u e h. let a = k.either v u e in grind (arith, nat_tests);
  one_tag = λ v u s t e f g. let a = k.one_tag v u s t e in grind (arith, nat_tests);
}

pub filled-keeps : (sh : Shape) (l : ℕ) (ws : List ℕ) (c : Cache) → c.held l ≡ true → IsCache sh c → IsCache sh (filled l ws c)
unfolding filled
filled-keeps sh l ws c here k = record {
  placed = k.placed;
  held = k.held;
  once = k.once;
  valued = λ v h. let a = k.valued v h in grind (arith, nat_tests);
  unread = λ v h. let a = k.unread v h in grind (arith, nat_tests);
  modified = λ v h. let a = k.modified v in grind (arith, nat_tests);
  dirty = λ v h. let a = k.dirty v in let b = k.either v v refl in grind (arith, nat_tests);
  either = λ v u e h. let a = k.either v u e in grind (arith, nat_tests);
  one_tag = λ v u s t e f g. let a = k.one_tag v u s t e in grind (arith, nat_tests);
}

pub invalidated-keeps : (sh : Shape) (l m : ℕ) (c : Cache) → IsCache sh c → IsCache sh (invalidated l m c)
unfolding invalidated
invalidated-keeps sh l m c k = record {
  placed = k.placed;
  held = k.held;
  once = k.once;
  valued = λ v h. let a = k.valued v h in grind (arith, nat_tests);
  unread = λ v h. let a = k.unread v h in grind (arith, nat_tests);
  modified = λ v h. let a = k.modified v in grind (arith, nat_tests);
  dirty = λ v h. let a = k.dirty v in let b = k.either v v refl in grind (arith, nat_tests);
  either = λ v u e h. let a = k.either v u e in grind (arith, nat_tests);
  one_tag = λ v u s t e f g. let a = k.one_tag v u s t e in grind (arith, nat_tests);
}

pub cleaned-keeps : (sh : Shape) (l : ℕ) (c : Cache) → IsCache sh c → IsCache sh (cleaned l c)
unfolding cleaned
cleaned-keeps sh l c k = record {
  placed = k.placed;
  held = k.held;
  once = k.once;
  valued = λ v h. let a = k.valued v h in grind (arith, nat_tests);
  unread = λ v h. let a = k.unread v h in grind (arith, nat_tests);
  modified = λ v h. let a = k.modified v in grind (arith, nat_tests);
  dirty = λ v h. let a = k.dirty v in let b = k.either v v refl in grind (arith, nat_tests);
  either = λ v u e h. let a = k.either v u e in grind (arith, nat_tests);
  one_tag = λ v u s t e f g. let a = k.one_tag v u s t e in grind (arith, nat_tests);
}

pub rolled_back-keeps : (sh : Shape) (c : Cache) → IsCache sh c → IsCache sh (rolled_back c)
unfolding rolled_back
rolled_back-keeps sh c k = record {
  placed = k.placed;
  held = k.held;
  once = k.once;
  valued = λ v h. let a = k.valued v h in grind (arith, nat_tests);
  unread = λ v h. refl;
  modified = λ v h. absurd (cc);
  dirty = λ v h. let a = k.dirty v in let b = k.either v v refl in grind (arith, nat_tests);
  either = λ v u e h. absurd (cc);
  one_tag = λ v u s t e f g. let a = k.one_tag v u s t e in grind (arith, nat_tests);
}

pub read_cleared-keeps : (sh : Shape) (c : Cache) → IsCache sh c → IsCache sh (read_cleared c)
unfolding read_cleared
read_cleared-keeps sh c k = record {
  placed = k.placed;
  held = k.held;
  once = k.once;
  valued = λ v h. let a = k.valued v h in grind (arith, nat_tests);
  unread = λ v h. refl;
  modified = λ v h. let a = k.modified v in grind (arith, nat_tests);
  dirty = λ v h. let a = k.dirty v in let b = k.either v v refl in grind (arith, nat_tests);
  either = λ v u e h. let a = k.either v u e in grind (arith, nat_tests);
  one_tag = λ v u s t e f g. let a = k.one_tag v u s t e in grind (arith, nat_tests);
}

pub committed-keeps : (sh : Shape) (t : ℕ) (c : Cache) → IsCache sh c → IsCache sh (committed t c)
unfolding committed
committed-keeps sh t c k = record {
  placed = k.placed;
  held = k.held;
  once = k.once;
  valued = λ v h. let a = k.valued v h in grind (arith, nat_tests);
  unread = λ v h. refl;
  modified = λ v h. absurd (cc);
  dirty = λ v h. let a = k.dirty v in let b = k.modified v in grind (arith, nat_tests);
  either = λ v u e h. absurd (cc);
  one_tag = λ v u s q e f g. let a = k.one_tag v u s q e in let b = k.either v u e in let d = k.either u v (sym e) in
      grind (arith, nat_tests);
}

pub word_dropped-keeps : (sh : Shape) (w : ℕ) (c : Cache) → IsCache sh c → IsCache sh (word_dropped w c)
unfolding word_dropped
word_dropped-keeps sh w c k = record {
  placed = k.placed;
  held = k.held;
  once = k.once;
  valued = λ v h. let a = k.valued v h in grind (arith, nat_tests);
  unread = λ v h. let a = k.unread v h in grind (arith, nat_tests);
  modified = λ v h. let a = k.modified v in grind (arith, nat_tests);
  dirty = λ v h. let a = k.dirty v in let b = k.either v v refl in grind (arith, nat_tests);
  either = λ v u e h. let a = k.either v u e in grind (arith, nat_tests);
  one_tag = λ v u s t e f g. let a = k.one_tag v u s t e in grind (arith, nat_tests);
}

pub words_dropped-keeps : (sh : Shape) (f : ℕ → Option ℕ) (c : Cache) → IsCache sh c → IsCache sh (words_dropped f c)
unfolding words_dropped
words_dropped-keeps sh f c k = record {
  placed = k.placed;
  held = k.held;
  once = k.once;
  valued = λ v h. let a = k.valued v h in grind (arith, nat_tests);
  unread = λ v h. let a = k.unread v h in grind (arith, nat_tests);
  modified = λ v h. let a = k.modified v in grind (arith, nat_tests);
  dirty = λ v h. let a = k.dirty v in let b = k.either v v refl in grind (arith, nat_tests);
  either = λ v u e h. let a = k.either v u e in grind (arith, nat_tests);
  one_tag = λ v u s t e f g. let a = k.one_tag v u s t e in grind (arith, nat_tests);
}

-- the way that is given is below the bound and held nothing
free-is_none : (o : Option ℕ) → not (is_some o) ≡ true → o ≡ None
free-is_none None e = refl
free-is_none (Some l) e = absurd (cc)

placed_here : (at : ℕ → ℕ → Option ℕ) (s y l m t : ℕ) → m ≡ l → t ≡ s → put_at at s y (Some l) t y ≡ Some m
placed_here at s y l m t e f = grind (arith, nat_tests)

placed_there : (at : ℕ → ℕ → Option ℕ) (s y l m t z : ℕ) → at s y ≡ None → at t z ≡ Some m → put_at at s y (Some l) t z ≡ Some m
placed_there at s y l m t z e f = grind (arith, nat_tests)

kept_there : (at : ℕ → ℕ → Option ℕ) (s y l m t z : ℕ) → at s y ≡ Some l → (m ≡ l → ⊥) → at t z ≡ Some m → put_at at s y None t z ≡ Some m
kept_there at s y l m t z e n f = grind (arith, nat_tests)

placed_at-keeps : (sh : Shape) (l : ℕ) (c : Cache) (o : Option ℕ) → LowestIs (λ y. not (is_some (c.at (set_of sh l) y))) sh.ways o
    → c.held l ≡ false → IsCache sh c → IsCache sh (placed_at o (set_of sh l) l c)
unfolding placed_at
placed_at-keeps sh l c None f h k = k
placed_at-keeps sh l c (Some y) f h k =
    let free : c.at (set_of sh l) y ≡ None = free-is_none (c.at (set_of sh l) y) f.passes in
    let below : y < sh.ways = f.below in
    record {
      placed = λ t z m e. let a = k.placed t z m in (grind (arith, nat_tests), grind (arith, nat_tests), grind (arith, nat_tests));
      held = λ m e. ⊎_elim
          (λ i. (y, placed_here c.at (set_of sh l) y l m (set_of sh m) i (ap (set_of sh) i)))
          (λ i. let b = k.held m (grind (arith, nat_tests)) in (b.0, placed_there c.at (set_of sh l) y l m (set_of sh m) b.0 free b.1))
          (cases_eq m l);
      once = λ t z u m e g. let a = k.once t z u m in let b = k.placed t z m in let d = k.placed t u m in grind (arith, nat_tests);
      valued = λ v e. let a = k.valued v in grind (arith, nat_tests);
      unread = λ v e. let a = k.unread v in grind (arith, nat_tests);
      modified = k.modified;
      dirty = k.dirty;
      either = k.either;
      one_tag = k.one_tag;
    }

pub placed-keeps : (sh : Shape) (l : ℕ) (c : Cache) → c.held l ≡ false → IsCache sh c → IsCache sh (placed sh l c)
unfolding placed free_way
placed-keeps sh l c h k =
    placed_at-keeps sh l c (free_way sh c (set_of sh l)) (lowest-is (λ y. not (is_some (c.at (set_of sh l) y))) sh.ways) h k

evicted_line-keeps : (sh : Shape) (s y : ℕ) (c : Cache) (o : Option ℕ) → c.at s y ≡ o → IsCache sh c → IsCache sh (evicted_line o s y c)
unfolding evicted_line
evicted_line-keeps sh s y c None e k = k
evicted_line-keeps sh s y c (Some l) here k =
    record {
      placed = λ t z m e. let a = k.placed t z m in let b = k.once s y z l here in let d = k.placed s y l here in
          (grind (arith, nat_tests), grind (arith, nat_tests), grind (arith, nat_tests));
      held = λ m e. let b = k.held m (grind (arith, nat_tests)) in
          (b.0, kept_there c.at s y l m (set_of sh m) b.0 here (grind (arith, nat_tests)) b.1);
      once = λ t z u m e g. let a = k.once t z u m in grind (arith, nat_tests);
      valued = λ v e. let a = k.valued v in grind (arith, nat_tests);
      unread = λ v e. let a = k.unread v in grind (arith, nat_tests);
      modified = λ v e. let a = k.modified v in grind (arith, nat_tests);
      dirty = λ v e. let a = k.dirty v in grind (arith, nat_tests);
      either = λ v u e g. let a = k.either v u e in grind (arith, nat_tests);
      one_tag = λ v u p q e f g. let a = k.one_tag v u p q e in grind (arith, nat_tests);
    }

pub evicted-keeps : (sh : Shape) (s y : ℕ) (c : Cache) → IsCache sh c → IsCache sh (evicted s y c)
unfolding evicted
evicted-keeps sh s y c k = evicted_line-keeps sh s y c (c.at s y) refl k
