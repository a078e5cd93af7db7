-- What a load marks, and how a line gets a way.
use Rattle.std.proofs.Common.{ℕ, ◌+◌, ◌*◌, ◌/◌, ◌%◌, ◌<◌, ◌≡◌, Bool, true, false, not, ◌&&◌, length, get_or, set, Option, Some, None}
use Rattle.std.proofs.Common.{is_some, refl, sym, ◌∙◌, ap, subst}
use Rattle.std.specs.Option.{MatchOption}
use Rattle.std.proofs.lemmas.Bool.{false≢true}
use Rattle.std.proofs.lemmas.List.{set-get_or}
use Rattle.std.proofs.lemmas.Nat.{div-mul-add}
use Rattle.std.proofs.Math.Bool.{and-false}
use Rattle.base_lemmas.proofs.Lemmas.{not-false}
use Rattle.rules_maps.specs.Words.{line_of, place_of, lowest}
use Rattle.rules_maps.specs.Shape.{set_of, lines}
use Rattle.rules_maps.specs.Cache.{Cache, free_way}
use Rattle.rules_maps.specs.CacheChange.{marked, placed, placed_at}
use Rattle.rules_maps.proofs.Lemmas.{lowest-cases}
use Rattle.spec_cache.specs.declared.frame.FrameView.{FrameView}
use Rattle.spec_cache.specs.Frame.{value_in, line_in, marked_frame, empty_frame}
use Rattle.spec_cache.specs.Held.{Held, IsHeld, FitsWay, IsWayOf, frame_of, maps}
use Rattle.spec_cache.specs.Look.{loaded}
use Rattle.spec_cache.proofs.MapsPlaced.{maps-placed}
use Rattle.spec_cache.proofs.HeldKept.{FitsWay-empty}
use Rattle.spec_cache.proofs.Calls.{found_line, marked_maps}
use Rattle.spec_cache.proofs.Looks.{at_way}

-- ---- what a load marks

no_mark : (mark : Bool) (w : ℕ) (c : Cache) → (mark && is_some (c.value w)) ≡ false → c ≡ loaded w mark c
unfolding loaded
no_mark mark w c e = rw e refl

pub loaded_absent : (h : Held) (l : ℕ) → frame_of h.frames l ≡ None → (w : ℕ) → l ≡ line_of w → (mark : Bool)
    → maps h ≡ loaded w mark (maps h)
unfolding maps value_in
loaded_absent h l absent w q mark = no_mark mark w (maps h) (rw (subst (λ (x : ℕ). frame_of h.frames x ≡ None) q absent) (and-false mark))

pub loaded_unmarked : (w : ℕ) (mark : Bool) (c : Cache) → mark ≡ false → c ≡ loaded w mark c
unfolding loaded
loaded_unmarked w mark c e = rw e refl

module _ (h : Held) (s : IsHeld h) (l : ℕ) (p : ℕ × FrameView) (k : IsWayOf h l p) (w : ℕ) (q : l ≡ line_of w) (mark : Bool) where
  value_here : (maps h).value w ≡ value_in (Some p.1) (place_of w)
  unfolding maps
  value_here = rw (subst (λ (x : ℕ). frame_of h.frames x ≡ Some p.1) q (found_line h s l p k)) refl

  pub loaded_miss : None ≡ value_in (Some p.1) (place_of w) → maps h ≡ loaded w mark (maps h)
  loaded_miss e = no_mark mark w (maps h) (rw (value_here, ← e) (and-false mark))

  pub loaded_marked : (x : ℕ) → Some x ≡ value_in (Some p.1) (place_of w) → mark ≡ true → (n : Held) → maps n ≡ marked w (maps h)
      → maps n ≡ loaded w mark (maps h)
  unfolding loaded
  loaded_marked x e m n d = rw (m, value_here, ← e) d

  -- the mark was there
  pub loaded_same : (x : ℕ) → Some x ≡ value_in (Some p.1) (place_of w) → mark ≡ true → (f : FrameView) → f ≡ marked_frame (place_of w) p.1
      → f ≡ p.1
      → maps h ≡ loaded w mark (maps h)
  loaded_same x e m f marks same = loaded_marked x e m h (marked_maps h s l p k _ _ put_back w q (sym same ∙ marks))
    where
      put_back : h ≡ record h { frames = set h.frames p.0 (Some p.1) }
      put_back = ap (λ fs. record h { frames = fs }) (rw (← k.here) (sym (set-get_or h.frames p.0 None)))

-- ---- how a line gets a way

line_in-none : (o : Option FrameView) → is_some (line_in o) ≡ false → o ≡ None
unfolding line_in
line_in-none None e = refl
line_in-none (Some f) e = absurd (false≢true (sym e))

is_some-none : {A : Type 0} (o : Option A) → is_some o ≡ false → o ≡ None
is_some-none None e = refl
is_some-none (Some x) e = absurd (false≢true (sym e))

some_case : (o : Option ℕ) (P : Type 0) (Q : ℕ → Type 0) (y : ℕ) → MatchOption o P Q → o ≡ Some y → Q y
some_case None P Q y m e = absurd (let z : None ≡ Some y = e in cc)
some_case (Some x) P Q y m e = let z : x ≡ y = cc in subst Q z m

lowest-passes : (p : ℕ → Bool) (n y : ℕ) → lowest p n ≡ Some y → p y ≡ true
lowest-passes p n y e =
    (some_case (lowest p n) ((k : ℕ) → k < n → p k ≡ false) (λ k. (k < n) × (p k ≡ true) × ((j : ℕ) → j < k → p j ≡ false)) y
    (lowest-cases p n) e).1

pub absent_line : (h : Held) (l : ℕ) → (maps h).held l ≡ false → frame_of h.frames l ≡ None
unfolding maps
absent_line h l e = is_some-none (frame_of h.frames l) e

module _ (h : Held) (s : IsHeld h) (l : ℕ) (t : ℕ) (set_is : t ≡ set_of h.config l) where
  free_there : free_way h.config (maps h) (set_of h.config l) ≡ free_way h.config (maps h) t
  free_there = ap (free_way h.config (maps h)) (sym set_is)

  pub placed_none : None ≡ free_way h.config (maps h) t → maps h ≡ placed h.config l (maps h)
  unfolding placed placed_at
  placed_none e = rw (free_there, ← e) refl

  module _ (y : ℕ) (free : Some y ≡ free_way h.config (maps h) t) (way : y < h.config.ways) (i : ℕ) (place : i ≡ t * h.config.ways + y)
      (absent : frame_of h.frames l ≡ None) (f : FrameView) (e : f ≡ empty_frame l) where
    pub fits_empty : l < lines h.config → FitsWay h i (Some f)
    fits_empty exists =
        let p : l % h.config.sets ≡ i / h.config.ways = sym set_is ∙ sym (div-mul-add t h.config.ways y way)
        ∙ ap (λ x. x / h.config.ways) (sym place) in
        rw e (FitsWay-empty h s i l p exists absent)

    free_before : get_or h.frames i None ≡ None
    unfolding free_way
    free_before =
        let p : not (is_some ((maps h).at t y)) ≡ true = lowest-passes (λ z. not (is_some ((maps h).at t z))) h.config.ways y (sym free) in
        line_in-none (get_or h.frames i None)
        (ap (λ x. is_some (line_in (get_or h.frames x None))) place ∙ ap (λ (x : Option ℕ). is_some x) (sym (at_way h t y way))
        ∙ not-false (is_some ((maps h).at t y)) p)

    pub placed_some : i < length h.frames → (n : Held) → n ≡ record h { frames = set h.frames i (Some f) }
        → maps n ≡ placed h.config l (maps h)
    unfolding placed
    placed_some inside n d = rw (d, e, free_there, ← free, ← set_is) (maps-placed h s i t y place way l inside free_before absent)
