-- The sets of marked frames: as they are found by place, and as the maps have them.
use Rattle.std.proofs.Common.{ℕ, zero, suc, ◌+◌, ◌*◌, ◌/◌, ◌%◌, ◌<◌, ◌≤◌, ◌≡◌, Bool, true, false, ◌||◌, if◌then◌else◌, ◌⊎◌, inl, inr}
use Rattle.std.proofs.Common.{List, [], ◌∷◌, ◌++◌}
use Rattle.std.proofs.Common.{length, get_or, Contains, IsPermutation, IsSorted, Option, Some, None, IfSome, nat_eq, refl, sym, ◌∙◌, ap}
use Rattle.std.proofs.Common.{subst, arith}
use Rattle.std.specs.List.{dedup}
use Rattle.std.specs.Option.{option_to_list}
use Rattle.std.specs.Ordering.{nat_cmp}
use Rattle.std.proofs.lemmas.Bool.{false≢true, eqb-true, eq-eqb}
use Rattle.std.proofs.lemmas.List.Elements.{Contains-append_left, Contains-append_right, Contains-append_cases}
use Rattle.std.proofs.lemmas.List.Kept.{AllPairs-from_increasing, Contains-dedup_nat, Contains-from_dedup}
use Rattle.std.proofs.lemmas.List.Sorted.{Contains-permutation, IsPermutation-sym}
use Rattle.std.proofs.lemmas.Map.Keys.{IsStrictlyIncreasing-dedup}
use Rattle.std.proofs.lemmas.Nat.{div_below, div-mul-add}
use Rattle.base_lemmas.proofs.Lemmas.{or-cases, or-left, or-right}
use Rattle.rules_maps.specs.Words.{any_below, those}
use Rattle.rules_maps.specs.Cache.{way_marked}
use Rattle.rules_maps.specs.CacheUse.{is_number}
use Rattle.rules_maps.proofs.Lemmas.{any_below-found, any_below-at, those-holds, those-only, those-rise}
use Rattle.spec_cache.specs.declared.frame.FrameView.{FrameView}
use Rattle.spec_cache.specs.Frame.{marked_in}
use Rattle.spec_cache.specs.Held.{Held, IsHeld, maps}
use Rattle.spec_cache.specs.Home.{Collects}
use Rattle.spec_cache.specs.MarkedSets.{has_marked, marked_set}
use Rattle.spec_cache.proofs.Looks.{way_marked-at}
use Rattle.spec_cache.proofs.Marked.{Rises, rising_same}

-- ---- numbers that were sorted, and of which each was kept once

pub dedup-rises : (xs ys : List ℕ) → IsSorted nat_cmp xs → ys ≡ dedup nat_eq xs → Rises ys
dedup-rises xs ys s e =
    subst (λ (zs : List ℕ). Rises zs) (sym e) (AllPairs-from_increasing (dedup nat_eq xs) (IsStrictlyIncreasing-dedup xs s))

pub dedup-from : (was xs ys : List ℕ) → IsPermutation was xs → ys ≡ dedup nat_eq xs → (k : ℕ) → Contains ys k → Contains was k
dedup-from was xs ys p e k c =
    Contains-permutation xs was k (IsPermutation-sym was xs p)
    (Contains-from_dedup nat_eq xs k (subst (λ (zs : List ℕ). Contains zs k) e c))

pub dedup-keeps : (was xs ys : List ℕ) → IsPermutation was xs → ys ≡ dedup nat_eq xs → (k : ℕ) → Contains was k → Contains ys k
dedup-keeps was xs ys p e k c =
    subst (λ (zs : List ℕ). Contains zs k) (sym e) (Contains-dedup_nat xs k (Contains-permutation was xs k p c))

-- ---- places

marked-within : (fs : List (Option FrameView)) (i : ℕ) → marked_in (get_or fs i None) ≡ true → i < length fs
unfolding marked_in
marked-within [] i e = absurd (false≢true e)
marked-within (o ∷ os) zero e = omega arith
marked-within (o ∷ os) (suc i) e = let b = marked-within os i e in omega (arith, b)

found-marked : (n : ℕ) (fs : List (Option FrameView)) (i x : ℕ) → marked_set n fs i ≡ Some x →
    (marked_in (get_or fs i None) ≡ true) × (i / n ≡ x)
found-marked n fs i x e = go (marked_in (get_or fs i None)) e
  where
    go : (b : Bool) → (if b then Some (i / n) else None) ≡ Some x → (b ≡ true) × (i / n ≡ x)
    go true q = (refl, (let z : i / n ≡ x = cc in z))
    go false q = absurd (let z : None ≡ Some x = q in cc)

-- ---- sets

option-only : (o : Option ℕ) (x : ℕ) → Contains (option_to_list o) x → is_number o x ≡ true
option-only None x c = absurd (let h : c.0 < 0 = c.1 in omega arith)
option-only (Some m) x (zero, b, e) = eq-eqb m x e
option-only (Some m) x (suc i, b, e) = absurd (omega (arith, b))

option-holds : (o : Option ℕ) (x : ℕ) → is_number o x ≡ true → Contains (option_to_list o) x
option-holds None x e = absurd (false≢true e)
option-holds (Some m) x e = (0, omega arith, eqb-true m x e)

option-below : (o : Option ℕ) (x n : ℕ) → IfSome o (λ y. y < n) → is_number o x ≡ true → x < n
option-below None x n b e = absurd (false≢true e)
option-below (Some m) x n b e = let q = eqb-true m x e in omega (arith, b, q)

-- the set is this one, or has a marked frame
abbrev is_that_or_marked : Held → Option ℕ → ℕ → Bool
is_that_or_marked h o x = is_number o x || has_marked h.config (maps h) x

module _ (h : Held) (s : IsHeld h) where
  found-set : (i x : ℕ) → marked_set h.config.ways h.frames i ≡ Some x → (x < h.config.sets) × (has_marked h.config (maps h) x ≡ true)
  unfolding has_marked
  found-set i x e =
      let n = h.config.ways in
      let some : 1 ≤ n = s.allowed.3.0 in
      let m = found-marked n h.frames i x e in
      let b = marked-within h.frames i m.0 in
      let exists : i / n < h.config.sets = div_below i n h.config.sets some (omega (arith, b, s.filled_ways)) in
      let here : i / n * n + i % n ≡ i = omega (arith, some) in
      let way : i % n < n = omega (arith, some) in
      let at : way_marked (maps h) ((maps h).at (i / n) (i % n)) ≡ true =
      way_marked-at h (i / n) (i % n) way s (get_or h.frames i None) (ap (λ j. get_or h.frames j None) (sym here)) ∙ m.0 in (
        subst (λ (y : ℕ). y < h.config.sets) m.1 exists,
        subst (λ (y : ℕ). any_below (λ z. way_marked (maps h) ((maps h).at y z)) n ≡ true) m.1
            (any_below-at (λ z. way_marked (maps h) ((maps h).at (i / n) z)) n (i % n) way at),
      )

  set-found : (x : ℕ) → has_marked h.config (maps h) x ≡ true → (i : ℕ) × (marked_set h.config.ways h.frames i ≡ Some x)
  unfolding has_marked
  set-found x e =
      let n = h.config.ways in
      let y = any_below-found (λ z. way_marked (maps h) ((maps h).at x z)) n e in
      let i : ℕ = x * n + y.0 in
      let m : marked_in (get_or h.frames i None) ≡ true = sym (way_marked-at h x y.0 y.1 s (get_or h.frames i None) refl) ∙ y.2 in
      (i, (rw m (ap Some (div-mul-add x n y.0 y.1))))

  pub marked-sets : (o : Option ℕ) → IfSome o (λ x. x < h.config.sets) → (xs : List ℕ) → Collects (marked_set h.config.ways h.frames) xs →
      (ys : List ℕ) → Rises ys →
      ((x : ℕ) → (Contains ys x → Contains (xs ++ option_to_list o) x) × (Contains (xs ++ option_to_list o) x → Contains ys x)) →
      ys ≡ those (λ x. is_number o x || has_marked h.config (maps h) x) h.config.sets
  marked-sets o b xs c ys r same =
      let n = h.config.sets in
      rising_same ys (those (is_that_or_marked h o) n) r (those-rise (is_that_or_marked h o) n)
      (λ x m. holds x (Contains-append_cases xs (option_to_list o) x ((same x).0 m)))
      (λ x m. (same x).1 (there x (those-only (is_that_or_marked h o) n x m).1))
    where
      holds : (x : ℕ) → Contains xs x ⊎ Contains (option_to_list o) x → Contains (those (is_that_or_marked h o) h.config.sets) x
      holds x (inl m) =
          let i = c.only x m in
          let q = found-set i.0 x i.1 in
          those-holds (is_that_or_marked h o) h.config.sets x q.0 (or-right (is_number o x) (has_marked h.config (maps h) x) q.1)
      holds x (inr m) =
          let q = option-only o x m in
          those-holds (is_that_or_marked h o) h.config.sets x (option-below o x h.config.sets b q)
          (or-left (is_number o x) (has_marked h.config (maps h) x) q)

      there : (x : ℕ) → is_that_or_marked h o x ≡ true → Contains (xs ++ option_to_list o) x
      there x e = elim (or-cases (is_number o x) (has_marked h.config (maps h) x) e) [
        | inl q ↦ Contains-append_right xs (option_to_list o) x (option-holds o x q)
        | inr q ↦ (let i = set-found x q in Contains-append_left xs (option_to_list o) x (c.each i.0 x i.1))
      ]
