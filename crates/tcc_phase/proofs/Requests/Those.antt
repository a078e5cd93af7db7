-- The numbers below a bound that pass, listed one after another.
use Rattle.std.proofs.Common.{◌≡◌, ◌≢◌, ℕ, zero, suc, ◌+◌, ◌<◌, ◌≤◌, ◌==◌, Bool, true, false, cond, [], ◌∷◌, ◌++◌, append-nil, length}
use Rattle.std.proofs.Common.{refl, ap, sym, subst, ◌∙◌, add-one, arith}
use Rattle.std.specs.Prelude.{get_or, insert, nat_lt}
use Rattle.std.proofs.lemmas.Bool.Decides.{nat_tests}
use Rattle.std.proofs.lemmas.List.{get_or_append_left, get_or_push, length_push}
use Rattle.std.proofs.lemmas.List.Edits.{insert-append_left, insert_end}
use Rattle.base_lemmas.proofs.Lemmas.{those-same}
use Rattle.rules_maps.specs.Words.{those}

pub those-first : (p : ℕ → Bool) → [] ≡ those p 0
unfolding those
those-first p = refl

one : (p : ℕ → Bool) (n : ℕ) → p n ≡ true → those p (suc n) ≡ those p n ++ n ∷ []
unfolding those
one p n t = ap (λ b. those p n ++ cond b (n ∷ []) []) t

none : (p : ℕ → Bool) (n : ℕ) → p n ≡ false → those p (suc n) ≡ those p n
unfolding those
none p n t = ap (λ b. those p n ++ cond b (n ∷ []) []) t ∙ append-nil (those p n)

pub those-more : (p : ℕ → Bool) (n : ℕ) → p n ≡ true → those p n ++ n ∷ [] ≡ those p (n + 1)
those-more p n t = sym (rw add-one (one p n t))

pub those-past : (p : ℕ → Bool) (n : ℕ) → p n ≡ false → those p (n + 1) ≡ those p n
those-past p n t = rw add-one (none p n t)

-- ---- where they stand

one-longer : (p : ℕ → Bool) (n : ℕ) → p n ≡ true → length (those p (suc n)) ≡ length (those p n) + 1
one-longer p n t = ap length (one p n t) ∙ length_push (those p n) n

-- of more numbers there are no fewer
pub those-longer : (p : ℕ → Bool) (m n : ℕ) → m ≤ n → length (those p m) ≤ length (those p n)
those-longer p m zero l = let e : m ≡ 0 = omega (arith, l) in let q = ap (λ k. length (those p k)) e in omega (arith, q)
those-longer p m (suc n) l = go (m == suc n) refl (those-longer p m n)
  where
    next : (b : Bool) → p n ≡ b → length (those p n) ≤ length (those p (suc n))
    next true t = let e = one-longer p n t in omega (arith, e)
    next false t = let e = ap length (none p n t) in omega (arith, e)

    go : (b : Bool) → (m == suc n) ≡ b → (m ≤ n → length (those p m) ≤ length (those p n)) → length (those p m) ≤ length (those p (suc n))
    go true e f = let s : m ≡ suc n = grind (arith, nat_tests) in let q = ap (λ k. length (those p k)) s in omega (arith, q)
    go false e f =
        let h : m ≤ n = grind (arith, nat_tests) in let q = f h in let r = next (p n) refl in omega (arith, q, r)

-- one that passes makes them more
pub those-more-behind : (p : ℕ → Bool) (m n : ℕ) → m < n → p m ≡ true → length (those p m) < length (those p n)
those-more-behind p m n l t =
    let e = one-longer p m t in let q = those-longer p (suc m) n (omega (arith, l)) in omega (arith, e, q)

-- at each place stands one that passes and is below the bound, and as many stand before it as pass below it
pub record Stands (p : ℕ → Bool) (n i x : ℕ) : Type 0 where
  pub below : x < n
  pub passes : p x ≡ true
  pub place : length (those p x) ≡ i

pub stands : (p : ℕ → Bool) (n i : ℕ) → i < length (those p n) → Stands p n i (get_or (those p n) i 0)
unfolding those
stands p zero i h = absurd (omega (arith, h))
stands p (suc n) i h = go (p n) refl (nat_lt i (length (those p n))) refl h (stands p n i)
  where
    more : (x : ℕ) → Stands p n i x → Stands p (suc n) i x
    more x s = let b = s.below in record { below = omega (arith, b); passes = s.passes; place = s.place }

    go : (b : Bool) → p n ≡ b → (t : Bool) → nat_lt i (length (those p n)) ≡ t → i < length (those p n ++ cond b (n ∷ []) [])
        → (i < length (those p n) → Stands p n i (get_or (those p n) i 0))
        → Stands p (suc n) i (get_or (those p n ++ cond b (n ∷ []) []) i 0)
    go b e true q l f =
        let m : i < length (those p n) = grind (arith, nat_tests) in
        subst (Stands p (suc n) i) (sym (get_or_append_left (those p n) (cond b (n ∷ []) []) 0 i m))
        (more (get_or (those p n) i 0) (f m))
    go true e false q l f =
        let m : length (those p n) ≤ i = grind (arith, nat_tests) in
        let c = length_push (those p n) n in
        let s : length (those p n) ≡ i = omega (arith, m, l, c) in
        subst (Stands p (suc n) i) (sym (get_or_push (those p n) n 0 i s)) (record { below = omega arith; passes = e; place = s })
    go false e false q l f =
        let m : length (those p n) ≤ i = grind (arith, nat_tests) in
        let c = ap length (append-nil (those p n)) in
        absurd (omega (arith, m, l, c))

pub those-rise : (p : ℕ → Bool) (n i j : ℕ) → i ≤ j → j < length (those p n) → get_or (those p n) i 0 ≤ get_or (those p n) j 0
those-rise p n i j l h = go (nat_lt (get_or (those p n) j 0) (get_or (those p n) i 0)) refl
  where
    go : (b : Bool) → nat_lt (get_or (those p n) j 0) (get_or (those p n) i 0) ≡ b → get_or (those p n) i 0 ≤ get_or (those p n) j 0
    go true q =
        let s = stands p n i (omega (arith, l, h)) in
        let t = stands p n j h in
        let m : get_or (those p n) j 0 < get_or (those p n) i 0 = grind (arith, nat_tests) in
        let k = those-more-behind p (get_or (those p n) j 0) (get_or (those p n) i 0) m t.passes in
        absurd (omega (arith, k, s.place, t.place, l))
    go false q = grind (arith, nat_tests)

-- what stands between those below c and those above it stands behind as many as pass below it
pub between : (p : ℕ → Bool) (c n k : ℕ) → c ≤ n → k ≤ length (those p n) → ((i : ℕ) → i < k → get_or (those p n) i 0 < c)
    → ((i : ℕ) → k ≤ i → i < length (those p n) → c < get_or (those p n) i 0) → k ≡ length (those p c)
between p c n k l h low high = go (nat_lt k (length (those p c))) refl (nat_lt (length (those p c)) k) refl
  where
    longer : length (those p c) ≤ length (those p n)
    longer = those-longer p c n l

    go : (a : Bool) → nat_lt k (length (those p c)) ≡ a → (b : Bool) → nat_lt (length (those p c)) k ≡ b → k ≡ length (those p c)
    go true e b f =
        let m : k < length (those p c) = grind (arith, nat_tests) in
        let within : k < length (those p n) = omega (arith, m, longer) in
        let s = stands p n k within in
        let above = high k (omega arith) within in
        let q = those-longer p c (get_or (those p n) k 0) (omega (arith, above)) in
        absurd (omega (arith, q, s.place, m))
    go false e true f =
        let m : length (those p c) < k = grind (arith, nat_tests) in
        let within : length (those p c) < length (those p n) = omega (arith, m, h) in
        let s = stands p n (length (those p c)) within in
        let q = those-more-behind p (get_or (those p n) (length (those p c)) 0) c (low (length (those p c)) m) s.passes in
        absurd (omega (arith, q, s.place))
    go false e false f = grind (arith, nat_tests)

-- and c isn't among them
pub absent : (p : ℕ → Bool) (c n k : ℕ) → c < n → ((i : ℕ) → i < k → get_or (those p n) i 0 < c)
    → ((i : ℕ) → k ≤ i → i < length (those p n) → c < get_or (those p n) i 0) → p c ≡ false
absent p c n k l low high = go (p c) refl (nat_lt (length (those p c)) k) refl
  where
    go : (b : Bool) → p c ≡ b → (t : Bool) → nat_lt (length (those p c)) k ≡ t → b ≡ false
    go false e t f = refl
    go true e true f =
        let m : length (those p c) < k = grind (arith, nat_tests) in
        let s = stands p n (length (those p c)) (those-more-behind p c n l e) in
        let q = those-more-behind p (get_or (those p n) (length (those p c)) 0) c (low (length (those p c)) m) s.passes in
        absurd (omega (arith, q, s.place))
    go true e false f =
        let m : k ≤ length (those p c) = grind (arith, nat_tests) in
        let within = those-more-behind p c n l e in
        let s = stands p n (length (those p c)) within in
        let q = those-more-behind p c (get_or (those p n) (length (those p c)) 0) (high (length (those p c)) m within) e in
        absurd (omega (arith, q, s.place))

-- one more passes
pub those-insert : (p q : ℕ → Bool) (c n : ℕ) → c < n → p c ≡ false → q c ≡ true → ((d : ℕ) → d < n → d ≢ c → p d ≡ q d)
    → insert (those p n) (length (those p c)) c ≡ those q n
unfolding those
those-insert p q c zero l f t h = absurd (omega (arith, l))
those-insert p q c (suc n) l f t h = go (c == n) refl (λ m. those-insert p q c n m f t (λ d k. h d (omega (arith, k))))
  where
    below : (d : ℕ) → d < c → p d ≡ q d
    below d k = h d (omega (arith, k, l)) (λ e. absurd (omega (arith, k, e)))

    go : (b : Bool) → (c == n) ≡ b → (c < n → insert (those p n) (length (those p c)) c ≡ those q n)
        → insert (those p n ++ cond (p n) (n ∷ []) []) (length (those p c)) c ≡ those q n ++ cond (q n) (n ∷ []) []
    go true e rest =
        let s : c ≡ n = grind (arith, nat_tests) in
        let fn : p n ≡ false = subst (λ d. p d ≡ false) s f in
        let tn : q n ≡ true = subst (λ d. q d ≡ true) s t in
        ap (λ b. insert (those p n ++ cond b (n ∷ []) []) (length (those p c)) c) fn
        ∙ ap (λ xs. insert xs (length (those p c)) c) (append-nil (those p n))
        ∙ (λ i. insert (those p n) (length (those p (s i))) (s i))
        ∙ insert_end (those p n) n
        ∙ ap (λ xs. xs ++ n ∷ []) (those-same p q n (λ d k. subst (λ m. (d : ℕ) → d < m → p d ≡ q d) s below d k))
        ∙ ap (λ b. those q n ++ cond b (n ∷ []) []) (sym tn)
    go false e rest =
        let m : c < n = grind (arith, nat_tests) in
        let other : n ≢ c = λ x. absurd (omega (arith, m, x)) in
        insert-append_left (those p n) (cond (p n) (n ∷ []) []) (length (those p c)) c (those-longer p c n (omega (arith, m)))
        ∙ (λ i. rest m i ++ cond (h n (omega arith) other i) (n ∷ []) [])
