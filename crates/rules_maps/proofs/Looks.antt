-- What a cache answers where a word isn't there, case by case, and what a test of a line's words finds.
use Rattle.std.proofs.Common.{◌≡◌, ℕ, suc, zero, ◌<◌, Bool, true, false, not, cond, ◌&&◌, inl, inr, ⊎_elim, Option, Some, None, is_some}
use Rattle.std.proofs.Common.{refl, sym, ap, ◌∙◌, subst, arith}
use Rattle.std.specs.Prelude.{◌↔◌, ◌⊎◌}
use Rattle.std.proofs.lemmas.Bool.{false≢true, and_parts, and_cases}
use Rattle.std.proofs.lemmas.Bool.Decides.{nat_tests}
use Rattle.rules_maps.specs.Words.{line_of, place_of, word_at, all_below, any_word}
use Rattle.rules_maps.specs.Masks.{has, hit}
use Rattle.rules_maps.specs.Shape.{Shape, set_of}
use Rattle.rules_maps.specs.Cache.{Cache, free_way, all_marked, way_marked}
use Rattle.rules_maps.specs.CacheLook.{Look, Miss, NeedsRoom, Overflow, look_line, reads_masked}
use Rattle.rules_maps.proofs.Numbers.{LowestIs, lowest-is, any_below-found, any_below-at, all_below-at, all_below-each}

pub all_below-fails : (p : ℕ → Bool) (n : ℕ) → all_below p n ≡ false → (k : ℕ) × (k < n) × (p k ≡ false)
unfolding all_below
all_below-fails p zero e = absurd (cc)
all_below-fails p (suc n) e =
    ⊎_elim (λ a. let r = all_below-fails p n a in (r.0, omega arith, r.2)) (λ b. (n, omega arith, b)) (and_cases (all_below p n) (p n) e)

none_of : (o : Option ℕ) → not (is_some o) ≡ true → o ≡ None
none_of None e = refl
none_of (Some x) e = absurd (false≢true e)

some_of : (o : Option ℕ) → not (is_some o) ≡ false → is_some o ≡ true
some_of None e = absurd (false≢true (sym e))
some_of (Some x) e = refl

-- ---- the cases of a look, over what it tests

abbrev answer : Bool → Option ℕ → Bool → ℕ → Look
answer held free full s = cond held Miss (cond (is_some free) Miss (cond full (Overflow s) (NeedsRoom s)))

module _ (sh : Shape) (l : ℕ) (c : Cache) where
  abbrev is_free : ℕ → Bool
  is_free y = not (is_some (c.at (set_of sh l) y))

  taken : (y : ℕ) → is_free y ≡ false → c.at (set_of sh l) y ≡ None → ⊥
  taken y f e = false≢true (sym f ∙ ap (λ (o : Option ℕ). not (is_some o)) e)

  none-free : ((y : ℕ) → y < sh.ways → is_free y ≡ false) → c.held l ≡ false →
      (c.held l ≡ true) ⊎ ((y : ℕ) × (y < sh.ways) × (c.at (set_of sh l) y ≡ None)) → ⊥
  none-free f e (inl t) = false≢true (sym e ∙ t)
  none-free f e (inr r) = taken r.0 (f r.0 r.1) r.2

  miss-in : (b : Bool) (o : Option ℕ) (m : Bool) → c.held l ≡ b → LowestIs is_free sh.ways o →
      (answer b o m (set_of sh l) ≡ Miss) ↔ ((c.held l ≡ true) ⊎ ((y : ℕ) × (y < sh.ways) × (c.at (set_of sh l) y ≡ None)))
  miss-in true o m e f = (λ q. inl e, λ h. refl)
  miss-in false (Some y) m e f = (λ q. inr (y, f.below, none_of (c.at (set_of sh l) y) f.passes), λ h. refl)
  miss-in false None true e f = (λ q. absurd (cc), λ h. absurd (none-free f e h))
  miss-in false None false e f = (λ q. absurd (cc), λ h. absurd (none-free f e h))

  pub looks-miss : (look_line sh l c ≡ Miss) ↔ ((c.held l ≡ true) ⊎ ((y : ℕ) × (y < sh.ways) × (c.at (set_of sh l) y ≡ None)))
  unfolding look_line free_way
  looks-miss = miss-in (c.held l) (free_way sh c (set_of sh l)) (all_marked sh c (set_of sh l)) refl (lowest-is is_free sh.ways)

  abbrev is_marked_way : ℕ → Bool
  is_marked_way y = way_marked c (c.at (set_of sh l) y)

  abbrev Full : ℕ → Type 0
  Full s = (y : ℕ) → y < sh.ways → way_marked c (c.at s y) ≡ true

  marked_none : (o : Option ℕ) → way_marked c o ≡ true → not (is_some o) ≡ true → ⊥
  unfolding way_marked
  marked_none None e f = false≢true e
  marked_none (Some k) e f = false≢true f

  overflow-in : (b : Bool) (o : Option ℕ) (m : Bool) (s : ℕ) → c.held l ≡ b → LowestIs is_free sh.ways o → all_marked sh c (set_of sh l) ≡ m
      →
      (answer b o m (set_of sh l) ≡ Overflow s) ↔ ((s ≡ set_of sh l) × (c.held l ≡ false) × Full s)
  unfolding all_marked
  overflow-in true o m s e f a = (λ q. absurd (cc), λ h. absurd (false≢true (sym h.1 ∙ e)))
  overflow-in false (Some y) m s e f a = (
    λ q. absurd (cc),
    λ h. absurd (marked_none (c.at (set_of sh l) y) (subst (λ (t : ℕ). way_marked c (c.at t y) ≡ true) h.0 (h.2 y f.below)) f.passes),
  )
  overflow-in false None true s e f a = (
    λ q. let r : s ≡ set_of sh l = cc in (
      r,
      e,
      λ y i.
          subst (λ (t : ℕ). way_marked c (c.at t y) ≡ true) (sym r) (all_below-at is_marked_way sh.ways y a i),
    ),
    λ h. ap Overflow (sym h.0),
  )
  overflow-in false None false s e f a = (
    λ q. absurd (cc),
    λ h. absurd (false≢true (sym a ∙ all_below-each is_marked_way sh.ways
        (λ y i. subst (λ (t : ℕ). way_marked c (c.at t y) ≡ true) h.0 (h.2 y i)))),
  )

  pub looks-overflow : (s : ℕ) →
      (look_line sh l c ≡ Overflow s) ↔ ((s ≡ set_of sh l) × (c.held l ≡ false) × ((y : ℕ) → y < sh.ways → way_marked c (c.at s y) ≡ true))
  unfolding look_line free_way
  looks-overflow s = overflow-in (c.held l) (free_way sh c (set_of sh l)) (all_marked sh c (set_of sh l)) s refl
      (lowest-is is_free sh.ways) refl

  room-in : (b : Bool) (o : Option ℕ) (m : Bool) (s : ℕ) → c.held l ≡ b → LowestIs is_free sh.ways o → all_marked sh c (set_of sh l) ≡ m →
      (answer b o m (set_of sh l) ≡ NeedsRoom s) ↔ ((s ≡ set_of sh l) × (c.held l ≡ false) ×
      ((y : ℕ) → y < sh.ways → is_some (c.at s y) ≡ true) × ((y : ℕ) × (y < sh.ways) × (way_marked c (c.at s y) ≡ false)))
  unfolding all_marked
  room-in true o m s e f a = (λ q. absurd (cc), λ h. absurd (false≢true (sym h.1 ∙ e)))
  room-in false (Some y) m s e f a = (
    λ q. absurd (cc),
    λ h. absurd (taken_some (c.at (set_of sh l) y) f.passes (subst (λ (t : ℕ). is_some (c.at t y) ≡ true) h.0 (h.2 y f.below))),
  )
    where
      taken_some : (x : Option ℕ) → not (is_some x) ≡ true → is_some x ≡ true → ⊥
      taken_some None n i = false≢true i
      taken_some (Some k) n i = false≢true n
  room-in false None true s e f a = (
    λ q. absurd (cc),
    λ h. absurd (false≢true (sym (h.3.2) ∙
        subst (λ (t : ℕ). way_marked c (c.at t h.3.0) ≡ true) (sym h.0) (all_below-at is_marked_way sh.ways h.3.0 a h.3.1))),
  )
  room-in false None false s e f a = (
    λ q. let r : s ≡ set_of sh l = cc in let u = all_below-fails is_marked_way sh.ways a in (
      r,
      e,
      λ y i. subst (λ (t : ℕ). is_some (c.at t y) ≡ true) (sym r) (some_of (c.at (set_of sh l) y) (f y i)),
      (u.0, u.1, subst (λ (t : ℕ). way_marked c (c.at t u.0) ≡ false) (sym r) u.2),
    ),
    λ h. ap NeedsRoom (sym h.0),
  )

  pub looks-room : (s : ℕ) → (look_line sh l c ≡ NeedsRoom s) ↔ ((s ≡ set_of sh l) × (c.held l ≡ false) ×
      ((y : ℕ) → y < sh.ways → is_some (c.at s y) ≡ true) × ((y : ℕ) × (y < sh.ways) × (way_marked c (c.at s y) ≡ false)))
  unfolding look_line free_way
  looks-room s = room-in (c.held l) (free_way sh c (set_of sh l)) (all_marked sh c (set_of sh l)) s refl (lowest-is is_free sh.ways) refl

-- ---- a test of a line's words

line_of-at : (l k : ℕ) → k < 8 → l ≡ line_of (word_at l k)
line_of-at l k b = omega arith

at-place : (l w : ℕ) → l ≡ line_of w → word_at l (place_of w) ≡ w
at-place l w e = omega arith

pub any-word : (p : ℕ → Bool) (l : ℕ) → (any_word p l ≡ true) ↔ ((w : ℕ) × (l ≡ line_of w) × (p w ≡ true))
unfolding any_word
any-word p l = (
  (λ e. let r = any_below-found (λ k. p (word_at l k)) 8 e in (word_at l r.0, line_of-at l r.0 r.1, r.2)),
  (λ h. any_below-at (λ k. p (word_at l k)) 8 (place_of h.0) (omega arith) (ap p (at-place l h.0 h.1) ∙ h.2)),
)

pub reads-masked : (l m : ℕ) (c : Cache)
    → (reads_masked l m c ≡ true) ↔ ((w : ℕ) × (l ≡ line_of w) × (has m (place_of w) ≡ true) × (c.read w ≡ true))
unfolding reads_masked hit
reads-masked l m c = let a = any-word (λ w. hit l m w && c.read w) l in (
  (λ e. let r = a.0 e in let p = and_parts (hit l m r.0) (c.read r.0) r.2 in
      let q : has m (place_of r.0) ≡ true = (let z = p.0 in grind (arith, nat_tests)) in (r.0, r.1, q, p.1)),
  (λ h. a.1 (h.0, h.1, let i = h.1 in let j = h.2 in let k = h.3 in grind (arith, nat_tests))),
)
