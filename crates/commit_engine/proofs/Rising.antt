-- Lists of numbers that rise: two with the same elements are the same.
use Rattle.std.proofs.Common.{ℕ, suc, ◌<◌, ◌≡◌, Bool, true, false, cond, ◌⊎◌, inl, inr, List, [], ◌∷◌, length, get_or, refl, sym, ◌∙◌}
use Rattle.std.proofs.Common.{ap, subst, arith, Contains}
use Rattle.std.specs.List.{AllPairs, filter}
use Rattle.std.proofs.lemmas.Bool.{false≢true}
use Rattle.base_lemmas.proofs.Lemmas.{at_head, head_or_tail, in_tail}

abbrev pub Rises : List ℕ → Type 0
Rises xs = AllPairs (λ x y. x < y) xs

above_head : (x k : ℕ) (xs : List ℕ) → Rises (x ∷ xs) → Contains xs k → x < k
above_head x k xs r c =
    let h : c.0 < length xs = c.1 in
    let e : get_or xs c.0 k ≡ k = c.2 in
    let b : x < get_or xs c.0 k = r 0 (suc c.0) k (omega arith) (omega arith) in
    omega (arith, b, e)

tail_rises : (x : ℕ) (xs : List ℕ) → Rises (x ∷ xs) → Rises xs
tail_rises x xs r = λ i j d h l. r (suc i) (suc j) d (omega arith) (omega arith)

-- two rising lists of the same numbers are the same
pub rising_same : (xs ys : List ℕ) → Rises xs → Rises ys → ((k : ℕ) → Contains xs k → Contains ys k)
    → ((k : ℕ) → Contains ys k → Contains xs k) → xs ≡ ys
rising_same [] [] r t f g = refl
rising_same [] (y ∷ ys) r t f g = absurd (let c = g y (at_head y ys) in let h : c.0 < 0 = c.1 in omega arith)
rising_same (x ∷ xs) [] r t f g = absurd (let c = f x (at_head x xs) in let h : c.0 < 0 = c.1 in omega arith)
rising_same (x ∷ xs) (y ∷ ys) r t f g =
    let e : x ≡ y = same_head x y xs ys r t f g in
    let rest : xs ≡ ys = rising_same xs ys (tail_rises x xs r) (tail_rises y ys t)
    (λ k c. later x y k xs ys r (f k) c (sym e)) (λ k c. later y x k ys xs t (g k) c e) in
    cc
  where
    later : (x y k : ℕ) (xs ys : List ℕ) → Rises (x ∷ xs) → (Contains (x ∷ xs) k → Contains (y ∷ ys) k) → Contains xs k → y ≡ x
        → Contains ys k
    later x y k xs ys r f c e = elim (head_or_tail y k ys (f (in_tail x k xs c))) [
      | inl q ↦ absurd (let b : x < k = above_head x k xs r c in omega (arith, b, e, q))
      | inr d ↦ d
    ]

    same_head : (x y : ℕ) (xs ys : List ℕ) → Rises (x ∷ xs) → Rises (y ∷ ys) → ((k : ℕ) → Contains (x ∷ xs) k → Contains (y ∷ ys) k)
        → ((k : ℕ) → Contains (y ∷ ys) k → Contains (x ∷ xs) k) → x ≡ y
    same_head x y xs ys r t f g = elim (head_or_tail y x ys (f x (at_head x xs))) [
      | inl q ↦ sym q
      | inr c ↦ elim (head_or_tail x y xs (g y (at_head y ys))) [
        | inl q ↦ q
        | inr d ↦ absurd (let a : y < x = above_head y x ys t c in let b : x < y = above_head x y xs r d in omega (arith, a, b))
      ]
    ]

-- ---- the elements that pass a test

pub filter-has : (p : ℕ → Bool) (xs : List ℕ) (x : ℕ) → Contains xs x → p x ≡ true → Contains (filter p xs) x
filter-has p [] x c t = absurd (let h : c.0 < 0 = c.1 in omega arith)
filter-has p (y ∷ xs) x c t = by (p y) refl (head_or_tail y x xs c) (λ d. filter-has p xs x d t)
  where
    by : (b : Bool) → p y ≡ b → (y ≡ x) ⊎ Contains xs x → (Contains xs x → Contains (filter p xs) x)
        → Contains (cond b (y ∷ filter p xs) (filter p xs)) x
    by true e (inl q) rest = subst (λ (k : ℕ). Contains (y ∷ filter p xs) k) q (at_head y (filter p xs))
    by true e (inr d) rest = in_tail y x (filter p xs) (rest d)
    by false e (inl q) rest = absurd (false≢true (sym e ∙ ap p q ∙ t))
    by false e (inr d) rest = rest d

pub filter-only : (p : ℕ → Bool) (xs : List ℕ) (x : ℕ) → Contains (filter p xs) x → Contains xs x × (p x ≡ true)
filter-only p [] x c = absurd (let h : c.0 < 0 = c.1 in omega arith)
filter-only p (y ∷ xs) x c = by (p y) refl c (filter-only p xs x)
  where
    by : (b : Bool) → p y ≡ b → Contains (cond b (y ∷ filter p xs) (filter p xs)) x
        → (Contains (filter p xs) x → Contains xs x × (p x ≡ true)) → Contains (y ∷ xs) x × (p x ≡ true)
    by true e c rest = elim (head_or_tail y x (filter p xs) c) [
      | inl q ↦ (subst (λ (k : ℕ). Contains (y ∷ xs) k) q (at_head y xs), ap p (sym q) ∙ e)
      | inr d ↦ (in_tail y x xs (rest d).0, (rest d).1)
    ]
    by false e c rest = (in_tail y x xs (rest c).0, (rest c).1)
