-- The maps of a cache after a way got a line or was emptied, and after all frames changed.
use Rattle.std.proofs.Common.{ℕ, ◌+◌, ◌*◌, ◌/◌, ◌<◌, ◌≤◌, ◌≡◌, Bool, true, false, cond, ◌&&◌, inl, inr, length, get_or, set, Option, Some}
use Rattle.std.proofs.Common.{None, is_some, nat_eq, nat_lt, refl, sym, ◌∙◌, ap, subst, arith, get_or-set_same, get_or-set_other}
use Rattle.std.proofs.lemmas.Bool.{cases_eq, eq-eqb, ne_eqb, ltb-true, ltb-false}
use Rattle.std.proofs.lemmas.Nat.{div-mul-add}
use Rattle.std.proofs.Math.Bool.{and-false}
use Rattle.base_lemmas.proofs.Lemmas.{has-zero, nat_eq-comm}
use Rattle.rules_maps.specs.Words.{line_of, place_of}
use Rattle.rules_maps.specs.CacheChange.{placed_at, evicted_line}
use Rattle.spec_cache.specs.declared.frame.FrameView.{FrameView}
use Rattle.spec_cache.specs.Frame.{value_in, read_in, modified_in, dirty_in, line_in, empty_frame}
use Rattle.spec_cache.specs.Held.{Held, IsHeld, frame_of, frame_at, maps}
use Rattle.spec_cache.proofs.FrameFound.{frame_of-placed, frame_of-emptied, some_within}
use Rattle.spec_cache.proofs.MapsChanged.{same_cache}

-- two ways of a cache are the same where their sets and their ways are
pub same_place : (ways s y t z : ℕ) → y < ways → z < ways → s * ways + y ≡ t * ways + z → (s ≡ t) × (y ≡ z)
same_place ways s y t z p q e =
    let q0 : s ≡ t = sym (div-mul-add s ways y p) ∙ ap (λ x. x / ways) e ∙ div-mul-add t ways z q in
    let f : s * ways + y ≡ s * ways + z = e ∙ ap (λ x. x * ways + z) (sym q0) in
    (q0, omega (arith, f))

pub same_way : (ways s y t z : ℕ) → y < ways → z < ways → nat_eq (s * ways + y) (t * ways + z) ≡ (nat_eq s t && nat_eq y z)
same_way ways s y t z p q = elim (cases_eq (s * ways + y) (t * ways + z)) [
  | inl e ↦ (let r = same_place ways s y t z p q e in rw (eq-eqb (s * ways + y) (t * ways + z) e, eq-eqb s t r.0, eq-eqb y z r.1) refl)
  | inr n ↦ rw (ne_eqb (s * ways + y) (t * ways + z) n) (elim (cases_eq s t) [
    | inr m ↦ rw (ne_eqb s t m) refl
    | inl e ↦ rw (eq-eqb s t e, ne_eqb y z (λ r. n (ap (λ x. x * ways + y) e ∙ ap (λ x. t * ways + x) r))) refl
  ])
]

module _ (h : Held) (i t y : ℕ) (here : i ≡ t * h.config.ways + y) (way : y < h.config.ways) (inside : i < length h.frames)
    (o : Option FrameView) where
  -- what stands at each place after way y of set t changed
  in_place : (u z : ℕ) → z < h.config.ways → get_or (set h.frames i o) (u * h.config.ways + z) None ≡ cond (nat_eq u t && nat_eq z y) o
      (get_or h.frames (u * h.config.ways + z) None)
  in_place u z e = rw (← (same_way h.config.ways u z t y e way)) (rw (← here) (elim (cases_eq (u * h.config.ways + z) i) [
    | inl q ↦ rw (eq-eqb (u * h.config.ways + z) i q, q) (get_or-set_same h.frames i o None inside)
    | inr n ↦ rw (ne_eqb (u * h.config.ways + z) i n) (get_or-set_other h.frames i (u * h.config.ways + z) o None n)
  ]))

  cond_line : (b : Bool) (p q : Option FrameView) → line_in (cond b p q) ≡ cond b (line_in p) (line_in q)
  cond_line true p q = refl
  cond_line false p q = refl

  -- what each way holds then
  pub at-placed : (u z : ℕ) → line_in (frame_at (record h { frames = set h.frames i o }) u z) ≡ cond (nat_eq u t && nat_eq z y) (line_in o)
      (line_in (frame_at h u z))
  unfolding frame_at
  at-placed u z = go (nat_lt z h.config.ways) refl
    where
      go : (b : Bool) → nat_lt z h.config.ways ≡ b → line_in (cond b (get_or (set h.frames i o) (u * h.config.ways + z) None) None) ≡ cond
          (nat_eq u t && nat_eq z y) (line_in o) (line_in (cond b (get_or h.frames (u * h.config.ways + z) None) None))
      go true e =
          rw (in_place u z (ltb-true z h.config.ways e))
          (cond_line (nat_eq u t && nat_eq z y) o (get_or h.frames (u * h.config.ways + z) None))
      go false e = elim (cases_eq z y) [
        | inl q ↦ absurd (let f : h.config.ways ≤ z = ltb-false z h.config.ways e in omega arith)
        | inr n ↦ rw (ne_eqb z y n, and-false (nat_eq u t)) refl
      ]

-- an empty frame says of each word what no frame says
same_nothing : (l k : ℕ) → (value_in (Some (empty_frame l)) k ≡ value_in None k) × (read_in (Some (empty_frame l)) k ≡ read_in None k)
    × (modified_in (Some (empty_frame l)) k ≡ modified_in None k) × (dirty_in (Some (empty_frame l)) k ≡ dirty_in None k)
unfolding value_in read_in modified_in dirty_in empty_frame
same_nothing l k = rw has-zero (refl, refl, refl, refl)

module _ (h : Held) (s : IsHeld h) (i t y : ℕ) (here : i ≡ t * h.config.ways + y) (way : y < h.config.ways) where
  module _ (l : ℕ) (inside : i < length h.frames) (free : get_or h.frames i None ≡ None) (absent : frame_of h.frames l ≡ None) where
    found_placed : (k : ℕ) → frame_of (set h.frames i (Some (empty_frame l))) k ≡ cond (nat_eq l k) (Some (empty_frame l))
        (frame_of h.frames k)
    unfolding empty_frame
    found_placed k = frame_of-placed h s i (empty_frame l) inside free absent k

    held_placed : (k : ℕ) → is_some (frame_of (set h.frames i (Some (empty_frame l))) k) ≡ cond (nat_eq k l) true
        (is_some (frame_of h.frames k))
    held_placed k =
        rw (found_placed k, nat_eq-comm k l)
        (elim (nat_eq l k) as (λ b. is_some (cond b (Some (empty_frame l)) (frame_of h.frames k)) ≡ cond b true
        (is_some (frame_of h.frames k))) [ true ↦ refl | false ↦ refl ])

    nothing_new : {A : Type 0} (x : Option FrameView → A) (k : ℕ) → x (Some (empty_frame l)) ≡ x None
        → x (frame_of (set h.frames i (Some (empty_frame l))) k) ≡ x (frame_of h.frames k)
    nothing_new x k e = rw (found_placed k) (elim (cases_eq l k) [
      | inl q ↦ rw (eq-eqb l k q, subst (λ (z : ℕ). frame_of h.frames z ≡ None) q absent) e
      | inr n ↦ rw (ne_eqb l k n) refl
    ])

    pub maps-placed : maps (record h { frames = set h.frames i (Some (empty_frame l)) }) ≡ placed_at (Some y) t l (maps h)
    unfolding maps placed_at
    maps-placed = same_cache _ _
        (λ u z. at-placed h i t y here way inside (Some (empty_frame l)) u z ∙ (unfold line_in empty_frame in refl))
        held_placed
        (λ w. nothing_new (λ o. value_in o (place_of w)) (line_of w) (same_nothing l (place_of w)).0)
        (λ w. nothing_new (λ o. read_in o (place_of w)) (line_of w) (same_nothing l (place_of w)).1)
        (λ w. nothing_new (λ o. modified_in o (place_of w)) (line_of w) (same_nothing l (place_of w)).2)
        (λ w. nothing_new (λ o. dirty_in o (place_of w)) (line_of w) (same_nothing l (place_of w)).3)

  module _ (f : FrameView) (p : get_or h.frames i None ≡ Some f) where
    gone : {A : Type 0} (x : Option FrameView → A) (k : ℕ)
        → x (frame_of (set h.frames i None) k) ≡ cond (nat_eq f.line.0 k) (x None) (x (frame_of h.frames k))
    gone x k =
        rw (frame_of-emptied h s i f p k)
        (elim (nat_eq f.line.0 k) as (λ b. x (cond b None (frame_of h.frames k)) ≡ cond b (x None) (x (frame_of h.frames k))) [
          | true ↦ refl
          | false ↦ refl
        ])

    pub maps-emptied : maps (record h { frames = set h.frames i None }) ≡ evicted_line (Some f.line.0) t y (maps h)
    unfolding maps evicted_line value_in read_in modified_in dirty_in line_in
    maps-emptied = same_cache _ _
        (λ u z. at-placed h i t y here way (some_within h.frames i f p) None u z)
        (λ k. gone (λ o. is_some o) k ∙ ap (λ b. cond b false (is_some (frame_of h.frames k))) (nat_eq-comm f.line.0 k))
        (λ w. gone (λ o. value_in o (place_of w)) (line_of w))
        (λ w. gone (λ o. read_in o (place_of w)) (line_of w))
        (λ w. gone (λ o. modified_in o (place_of w)) (line_of w))
        (λ w. gone (λ o. dirty_in o (place_of w)) (line_of w))
