-- What the readers of a cache answer: single frames, and ways counted by what they hold.
use Rattle.std.proofs.Common.{ℕ, zero, suc, ◌+◌, ◌*◌, ◌/◌, ◌%◌, ◌<◌, ◌≡◌, Bool, true, false, not, cond, ◌&&◌, ◌||◌, length, get_or, Option}
use Rattle.std.proofs.Common.{Some, None, is_some, nat_eq, refl, sym, ◌∙◌, ap, subst, arith, add-one}
use Rattle.std.specs.Option.{MatchOption}
use Rattle.std.proofs.lemmas.Bool.{eqb-true}
use Rattle.std.proofs.Math.Bool.{and-false}
use Rattle.base_lemmas.proofs.Lemmas.{any_below-count, any_below-none, any_below-same, count_below-same, line_of-word_at}
use Rattle.rules_maps.specs.Words.{line_of, place_of, any_word, any_below, count_below}
use Rattle.rules_maps.specs.Masks.{has}
use Rattle.rules_maps.specs.Shape.{lines}
use Rattle.rules_maps.specs.Cache.{is_marked, is_modified, is_dirty, writes_at, keeps}
use Rattle.rules_maps.specs.CacheUse.{Wants, is_number, is_useful_way, useful_at, useful_ways}
use Rattle.rules_maps.proofs.Lemmas.{length-those}
use Rattle.spec_cache.specs.declared.frame.FrameView.{FrameView}
use Rattle.spec_cache.specs.Frame.{modified_in, dirty_in, line_in, holds_line, IsFrame, IsWay}
use Rattle.spec_cache.specs.Held.{Held, IsHeld, IsWayOf, frame_of, maps}
use Rattle.spec_cache.specs.Home.{written_in}
use Rattle.spec_cache.specs.Useful.{writes_in, dirty_way, is_marked_frame, useful_in}
use Rattle.spec_cache.proofs.FrameList.{frame_of-found}
use Rattle.spec_cache.proofs.FrameFound.{frame_of-way}
use Rattle.spec_cache.proofs.Readings.{any-has, modified-at, is_dirty-frame, is_marked-frame, keeps-frame}
use Rattle.spec_cache.proofs.Calls.{found_line, frame_here}
use Rattle.spec_cache.proofs.Looks.{not_held, is_held, at_way}
use Rattle.spec_cache.proofs.Counted.{lines_counted, those-nth, count_below-within}

-- ---- one number further

module _ (p : ℕ → Bool) (i n : ℕ) (counted : n ≡ count_below p i) where
  pub counted_more : (m : ℕ) → m ≡ n + 1 → p i ≡ true → m ≡ count_below p (i + 1)
  unfolding count_below
  counted_more m e t = rw (add-one, t) (e ∙ ap (λ x. x + 1) counted)

  pub counted_same : (m : ℕ) → m ≡ n → p i ≡ false → m ≡ count_below p (i + 1)
  unfolding count_below
  counted_same m e f = rw (add-one, f) (e ∙ counted ∙ omega arith)

-- ---- one line, one way

pub held_as_found : (h : Held) (s : IsHeld h) (l : ℕ) (o : Option (ℕ × FrameView))
    → MatchOption o (frame_of h.frames l ≡ None) (λ p. IsWayOf h l p) →
    (b : Bool) → b ≡ is_some o → b ≡ (maps h).held l
held_as_found h s l None m b e = e ∙ sym (not_held h l m)
held_as_found h s l (Some p) m b e = e ∙ sym (is_held h s l p m)

pub modified_none : (h : Held) (l w : ℕ) → l ≡ line_of w → frame_of h.frames l ≡ None → false ≡ (maps h).modified w
unfolding maps modified_in
modified_none h l w q absent = rw (subst (λ (x : ℕ). frame_of h.frames x ≡ None) q absent) refl

pub modified_here : (h : Held) (s : IsHeld h) (l : ℕ) (p : ℕ × FrameView) (k : IsWayOf h l p) (w : ℕ) → l ≡ line_of w →
    (i : ℕ) → i ≡ place_of w → (b : Bool) → b ≡ has p.1.modified.0 i → b ≡ (maps h).modified w
unfolding maps modified_in
modified_here h s l p k w q i e b r = rw (subst (λ (x : ℕ). frame_of h.frames x ≡ Some p.1) q (found_line h s l p k))
    (r ∙ ap (has p.1.modified.0) e)

pub keeps_here : (h : Held) (s : IsHeld h) (l : ℕ) (p : ℕ × FrameView) (k : IsWayOf h l p) → not (nat_eq p.1.valid.0 0) ≡ keeps (maps h) l
keeps_here h s l p k = sym (keeps-frame h l p.1 (found_line h s l p k) (frame_here h s l p k))

module _ (h : Held) (t y : ℕ) (way : y < h.config.ways) (i : ℕ) (place : i ≡ t * h.config.ways + y) where
  at_place : (maps h).at t y ≡ line_in (get_or h.frames i None)
  at_place = at_way h t y way ∙ ap (λ x. line_in (get_or h.frames x None)) (sym place)

  pub way_none : None ≡ get_or h.frames i None → (maps h).at t y ≡ None
  unfolding line_in
  way_none e = rw (at_place, ← e) refl

  pub way_here : (s : IsHeld h) (f : FrameView) → Some f ≡ get_or h.frames i None → (b : Bool) → b ≡ is_marked_frame f →
      ((maps h).at t y ≡ Some f.line.0) × (b ≡ is_marked (maps h) f.line.0)
  unfolding line_in IsWay
  way_here s f e b m =
      ((rw (at_place, ← e) refl), m ∙ sym (is_marked-frame h f.line.0 f (frame_of-way h s i f (sym e)) (rw (sym e) at (s.frame i))))

-- ---- a line's words, read off its frame or where it has none

never : (n : ℕ) → any_below (λ _. false) n ≡ false
unfolding any_below
never zero = refl
never (suc n) = rw (never n) refl

module _ (h : Held) (s : IsHeld h) where
  frame_in : (l : ℕ) (f : FrameView) → frame_of h.frames l ≡ Some f → IsFrame f × (f.line.0 ≡ l)
  unfolding IsWay holds_line
  frame_in l f e = let r = frame_of-found h.frames l f e in ((rw r.1 at (s.frame r.0)), eqb-true f.line.0 l r.2)

  pub modified-frame : (l : ℕ) (f : FrameView) → frame_of h.frames l ≡ Some f → IsFrame f
      → is_modified (maps h) l ≡ not (nat_eq f.modified.0 0)
  unfolding is_modified any_word
  modified-frame l f e k = any_below-same _ (has f.modified.0) 8 (modified-at h l f e) ∙ any-has f.modified.0 k.modified_fits

  unmodified : (l : ℕ) → frame_of h.frames l ≡ None → is_modified (maps h) l ≡ false
  unfolding is_modified any_word maps modified_in
  unmodified l e = any_below-none _ 8 (λ k b. rw (line_of-word_at l k b, e) refl)

  clean : (l : ℕ) → frame_of h.frames l ≡ None → is_dirty (maps h) l ≡ false
  unfolding is_dirty any_word maps dirty_in
  clean l e = any_below-none _ 8 (λ k b. rw (line_of-word_at l k b, e) refl)

  -- ---- counts

  chosen : (b : Bool) (x : ℕ) → is_some (cond b (Some x) None) ≡ b
  chosen true x = refl
  chosen false x = refl

  line_writes : (d l : ℕ) (o : Option FrameView) → frame_of h.frames l ≡ o
      → writes_in h.config.dirs d o ≡ (nat_eq d (l % h.config.dirs) && is_modified (maps h) l)
  unfolding written_in
  line_writes d l None e = rw (unmodified l e) (sym (and-false (nat_eq d (l % h.config.dirs))))
  line_writes d l (Some f) e =
      let r = frame_in l f e in
      chosen (nat_eq d (f.line.0 % h.config.dirs) && not (nat_eq f.modified.0 0)) f.line.0 ∙ (rw (r.1, modified-frame l f e r.0) refl)

  writes_none : (d : ℕ) → writes_in h.config.dirs d None ≡ false
  unfolding written_in
  writes_none d = refl

  pub write_counted : (d n : ℕ) → n ≡ count_below (λ i. writes_in h.config.dirs d (get_or h.frames i None)) (length h.frames) →
      n ≡ count_below (λ l. nat_eq d (l % h.config.dirs) && is_modified (maps h) l) (lines h.config)
  write_counted d n e =
      e ∙ lines_counted (writes_in h.config.dirs d) (writes_none d) (lines h.config) h.frames s.once s.exists
      ∙ count_below-same _ _ (lines h.config) (λ l b. line_writes d l (frame_of h.frames l) refl)

  line_dirty : (l : ℕ) (o : Option FrameView) → frame_of h.frames l ≡ o → dirty_way o ≡ is_dirty (maps h) l
  unfolding dirty_way
  line_dirty l None e = sym (clean l e)
  line_dirty l (Some f) e = sym (is_dirty-frame h l f e (frame_in l f e).0)

  dirty_none : dirty_way None ≡ false
  unfolding dirty_way
  dirty_none = refl

  pub dirty_counted : (n : ℕ) → n ≡ count_below (λ i. dirty_way (get_or h.frames i None)) (length h.frames)
      → not (nat_eq n 0) ≡ any_below (is_dirty (maps h)) (lines h.config)
  dirty_counted n e =
      let all : n ≡ count_below (is_dirty (maps h)) (lines h.config) =
      e ∙ lines_counted dirty_way dirty_none (lines h.config) h.frames s.once s.exists ∙ count_below-same _ _ (lines h.config)
      (λ l b. line_dirty l (frame_of h.frames l) refl) in
      ap (λ x. not (nat_eq x 0)) all ∙ sym (any_below-count (is_dirty (maps h)) (lines h.config))

  -- ---- the useful ways

  may : (a k m : Bool) (x y z : Bool) → (not (a || (not k && m)) && (not (x && y) || z)) ≡ (not a && (k || not m) && (not x || not y || z))
  may true k m x y z = refl
  may false true m true true z = refl
  may false true m true false z = refl
  may false true m false y z = refl
  may false false true x y z = refl
  may false false false true true z = refl
  may false false false true false z = refl
  may false false false false y z = refl

  useful-in : (q : Wants) (t : ℕ) (o : Option FrameView) (i : ℕ) → get_or h.frames i None ≡ o
      → is_useful_way q (maps h) t (line_in o) ≡ useful_in q t o
  unfolding is_useful_way useful_in line_in IsWay
  useful-in q t None i e = refl
  useful-in q t (Some f) i e =
      let found = frame_of-way h s i f e in
      let k : IsFrame f = rw e at (s.frame i) in
      rw (modified-frame f.line.0 f found k, is_dirty-frame h f.line.0 f found k, is_marked-frame h f.line.0 f found k)
      (sym (may (is_number q.awaited f.line.0) q.alone (is_marked_frame f) (nat_eq f.modified.0 0) (nat_eq f.dirty.0 0)
      (is_number q.room t)))

  useful-here : (q : Wants) (i : ℕ) → useful_at h.config q (maps h) i ≡ useful_in q (i / h.config.ways) (get_or h.frames i None)
  unfolding useful_at
  useful-here q i =
      let positive : 0 < h.config.ways = s.allowed.3.0 in
      let below : i % h.config.ways < h.config.ways = omega (arith, positive) in
      let place : i / h.config.ways * h.config.ways + i % h.config.ways ≡ i = omega (arith, positive) in
      ap (is_useful_way q (maps h) (i / h.config.ways))
      (at_way h (i / h.config.ways) (i % h.config.ways) below ∙ ap (λ x. line_in (get_or h.frames x None)) place)
      ∙ useful-in q (i / h.config.ways) (get_or h.frames i None) i refl

  pub useful_counted : (q : Wants)
      → length (useful_ways h.config q (maps h)) ≡ count_below (λ i. useful_in q (i / h.config.ways) (get_or h.frames i None))
      (h.config.sets * h.config.ways)
  unfolding useful_ways
  useful_counted q = length-those _ _ ∙ count_below-same _ _ (h.config.sets * h.config.ways) (λ i b. useful-here q i)

  module _ (q : Wants) (i k : ℕ) (inside : i < h.config.sets * h.config.ways)
      (here : useful_in q (i / h.config.ways) (get_or h.frames i None) ≡ true)
      (before : count_below (λ j. useful_in q (j / h.config.ways) (get_or h.frames j None)) i ≡ k) where
    passed : count_below (useful_at h.config q (maps h)) i ≡ k
    passed = count_below-same _ _ i (λ j b. useful-here q j) ∙ before

    pub useful_nth : get_or (useful_ways h.config q (maps h)) k 0 ≡ i
    unfolding useful_ways
    useful_nth = those-nth (useful_at h.config q (maps h)) (h.config.sets * h.config.ways) i k inside (useful-here q i ∙ here) passed

    pub useful_more : k < length (useful_ways h.config q (maps h))
    unfolding useful_ways
    useful_more =
        let a = count_below-within (useful_at h.config q (maps h)) (h.config.sets * h.config.ways) i inside (useful-here q i ∙ here) in
        let b = length-those (useful_at h.config q (maps h)) (h.config.sets * h.config.ways) in
        omega (arith, a, b, passed)

pub writes-count : (h : Held) (d : ℕ)
    → writes_at h.config (maps h) d ≡ not
    (nat_eq (count_below (λ l. nat_eq d (l % h.config.dirs) && is_modified (maps h) l) (lines h.config)) 0)
unfolding writes_at
writes-count h d = any_below-count (λ l. nat_eq d (l % h.config.dirs) && is_modified (maps h) l) (lines h.config)
