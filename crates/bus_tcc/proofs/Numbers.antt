-- The numbers below a bound that pass a test, as a loop counts and seeks them, and lists by number, as their lengths find what is in them.
use Rattle.std.proofs.Common.{◌≡◌, ℕ, zero, suc, ◌+◌, ◌*◌, ◌<◌, ◌≤◌, Bool, true, false, cond, if◌then◌else◌, List, [], ◌∷◌, ◌++◌, map}
use Rattle.std.proofs.Common.{length, ◌-◌, append-nil, length-append, take, take_all, Some, None, refl, ap, sym, ◌∙◌, arith, inl, inr}
use Rattle.std.specs.Prelude.{get_or, slice_get, sum}
use Rattle.std.specs.List.{filter, flat_map}
use Rattle.std.proofs.lemmas.Bool.{cases_eq, cases_lt}
use Rattle.std.proofs.lemmas.Grind.{flat_map-append}
use Rattle.std.proofs.lemmas.List.Elements.{filter-append}
use Rattle.std.proofs.lemmas.List.Sums.{sum_by_more}
use Rattle.std.proofs.lemmas.Option.{slice_get_past, slice_get_within}
use Rattle.base_lemmas.proofs.Lemmas.{get-front}
use Rattle.rules_maps.specs.Words.{those}
use Rattle.rules_tcc.specs.Seen.{numbers}
use Rattle.machine_cores.proofs.Lemmas.{get-right}
use Rattle.base_sums.specs.Falls.{FallsAt}

one-more : (t : ℕ → Bool) (n : ℕ) → filter t (numbers (suc n)) ≡ filter t (numbers n) ++ cond (t n) (n ∷ []) []
unfolding those
one-more t n = filter-append t (numbers n) (n ∷ [])

-- one more number is counted, or not
pub count-more : (t : ℕ → Bool) (n : ℕ) (b : Bool) (count : ℕ) → count ≡ length (filter t (numbers n)) → b ≡ t n
    → (if b then count + 1 else count) ≡ length (filter t (numbers (n + 1)))
count-more t n b count e q =
    let is : n + 1 ≡ suc n = omega arith in
    rw (is, one-more t n, sym q) (by b)
  where
    by : (b : Bool) → (if b then count + 1 else count) ≡ length (filter t (numbers n) ++ cond b (n ∷ []) [])
    by true = omega (arith, e, length-append (filter t (numbers n)) (n ∷ []))
    by false = omega (arith, e, length-append (filter t (numbers n)) [])

-- the more numbers, the more pass
grown : (t : ℕ → Bool) (n i : ℕ) → n ≤ i → length (filter t (numbers n)) ≤ length (filter t (numbers i))
grown t n zero l = let z : n ≡ zero = omega (arith, l) in rw z (omega arith)
grown t n (suc i) l = elim (cases_eq n (suc i)) [
  | inl q ↦ rw q (omega arith)
  | inr m ↦ (let h = grown t n i (omega arith) in
      rw (one-more t i) (omega (arith, h, length-append (filter t (numbers i)) (cond (t i) (i ∷ []) []))))
]

-- one before which fewer pass stands before the end
pub before-end : (t : ℕ → Bool) (i n k : ℕ) → length (filter t (numbers i)) ≡ k → k < length (filter t (numbers n)) → i < n
before-end t i n k e l = elim (cases_lt i n) [
  | inl q ↦ q
  | inr q ↦ absurd (omega (arith, e, l, grown t n i q))
]

pub count-most : (t : ℕ → Bool) (n : ℕ) → length (filter t (numbers n)) ≤ n
unfolding those
count-most t zero = omega arith
count-most t (suc n) = rw (one-more t n) (by (t n) (count-most t n))
  where
    by : (b : Bool) → length (filter t (numbers n)) ≤ n → length (filter t (numbers n) ++ cond b (n ∷ []) []) ≤ suc n
    by true h = omega (arith, h, length-append (filter t (numbers n)) (n ∷ []))
    by false h = omega (arith, h, length-append (filter t (numbers n)) [])

-- a number that passes stands behind those before it that do
pub sought : (t : ℕ → Bool) (i n : ℕ) → t i ≡ true → i < n → slice_get (filter t (numbers n)) (length (filter t (numbers i))) ≡ Some i
unfolding those
sought t i zero e h = absurd (omega arith)
sought t i (suc n) e h = ap (λ xs. slice_get xs (length (filter t (numbers i)))) (one-more t n) ∙ elim (cases_eq i n) [
  | inl q ↦ rw (← q, e) (get-right (filter t (numbers i)) (i ∷ []) 0 (length (filter t (numbers i))) (omega arith))
  | inr m ↦ (let at = sought t i n e (omega arith) in
      get-front (filter t (numbers n)) (cond (t n) (n ∷ []) []) (length (filter t (numbers i)))
      (slice_get_within (filter t (numbers n)) (length (filter t (numbers i))) i at) ∙ at)
]

-- lists of one where a test passes
pub ones-flat : {A : Type 0} (t : ℕ → Bool) (g : ℕ → A) (xs : List ℕ) → flat_map (λ c. cond (t c) (g c ∷ []) []) xs ≡ map g (filter t xs)
ones-flat t g [] = refl
ones-flat t g (x ∷ xs) = by (t x) (ones-flat t g xs)
  where
    by : (b : Bool) → flat_map (λ c. cond (t c) (g c ∷ []) []) xs ≡ map g (filter t xs)
        → cond b (g x ∷ []) [] ++ flat_map (λ c. cond (t c) (g c ∷ []) []) xs ≡ map g (cond b (x ∷ filter t xs) (filter t xs))
    by true e = ap (λ ys. g x ∷ ys) e
    by false e = e

-- short lists by number
pub flat-most : {A : Type 0} (f : ℕ → List A) (m n : ℕ) → ((k : ℕ) → k < n → length (f k) ≤ m) → length (flat_map f (numbers n)) ≤ n * m
unfolding those
flat-most f m zero h = omega arith
flat-most f m (suc n) h =
    let before = flat-most f m n (λ k l. h k (omega arith)) in
    let last = h n (omega arith) in
    let e : suc n * m ≡ n * m + m = grind arith in
    rw (flat_map-append f (numbers n) (n ∷ []), e)
    (omega (
      arith,
      before,
      last,
      length-append (flat_map f (numbers n)) (f n ++ []),
      length-append (f n) [],
    ))

-- ---- lists by number, of these lengths

abbrev pub AreLengths : {A : Type 0} → (ℕ → List A) → ℕ → List ℕ → Type 0
AreLengths f n counts = (length counts ≡ n) × ((c : ℕ) → c < n → get_or counts c 0 ≡ length (f c))

flat-more : {A : Type 0} (f : ℕ → List A) (n : ℕ) → flat_map f (numbers (suc n)) ≡ flat_map f (numbers n) ++ f n
unfolding those
flat-more f n = flat_map-append f (numbers n) (n ∷ []) ∙ ap (λ ys. flat_map f (numbers n) ++ ys) (append-nil (f n))

-- what stands before the i-th list
before : {A : Type 0} (f : ℕ → List A) (n : ℕ) (counts : List ℕ) → AreLengths f n counts → (i : ℕ) → i ≤ n
    → sum (take i counts) ≡ length (flat_map f (numbers i))
unfolding those
before f n counts h zero l = refl
before f n counts h (suc i) l =
    let e : suc i ≡ i + 1 = omega arith in
    let within : i < length counts = omega (arith, l, h.0) in
    ap (λ j. sum (take j counts)) e ∙ sum_by_more (λ x. x) counts i 0 within
    ∙ omega (
      arith,
      before f n counts h i (omega (arith, l)),
      h.1 i (omega (arith, l)),
      length-append (flat_map f (numbers i)) (f i),
      ap length (flat-more f i),
    )

pub total : {A : Type 0} (f : ℕ → List A) (n : ℕ) (counts : List ℕ) → AreLengths f n counts → sum counts ≡ length (flat_map f (numbers n))
total f n counts h = ap sum (sym (take_all n counts (omega (arith, h.0)))) ∙ before f n counts h n (omega arith)

earlier : {A : Type 0} (f : ℕ → List A) (i n r : ℕ) → i < n → r < length (f i)
    → length (flat_map f (numbers i)) + r < length (flat_map f (numbers n))
earlier f i zero r l h = absurd (omega arith)
earlier f i (suc n) r l h = elim (cases_eq i n) [
  | inl q ↦ rw (← q) (omega (arith, h, length-append (flat_map f (numbers i)) (f i), ap length (flat-more f i)))
  | inr m ↦ omega (
    arith,
    earlier f i n r (omega arith) h,
    length-append (flat_map f (numbers n)) (f n),
    ap length (flat-more f n),
  )
]

-- element r of the i-th list
inside : {A : Type 0} (f : ℕ → List A) (i n r : ℕ) → i < n → r < length (f i)
    → slice_get (flat_map f (numbers n)) (length (flat_map f (numbers i)) + r) ≡ slice_get (f i) r
inside f i zero r l h = absurd (omega arith)
inside f i (suc n) r l h = ap (λ xs. slice_get xs (length (flat_map f (numbers i)) + r)) (flat-more f n) ∙ elim (cases_eq i n) [
  | inl q ↦ rw (← q) (get-right (flat_map f (numbers i)) (f i) r (length (flat_map f (numbers i)) + r) refl)
  | inr m ↦ get-front (flat_map f (numbers n)) (f n) (length (flat_map f (numbers i)) + r) (earlier f i n r (omega arith) h)
      ∙ inside f i n r (omega arith) h
]

pub past : {A : Type 0} (f : ℕ → List A) (n : ℕ) (counts : List ℕ) (k : ℕ) → AreLengths f n counts → (k < sum counts → ⊥)
    → slice_get (flat_map f (numbers n)) k ≡ None
past f n counts k h l = slice_get_past (flat_map f (numbers n)) k (elim (cases_lt k (sum counts)) [
  | inl q ↦ absurd (l q)
  | inr q ↦ rw (sym (total f n counts h)) q
])

-- the k-th of all lists is in the list in which it falls
pub record IsFound {A : Type 0} (f : ℕ → List A) (n k c r : ℕ) : Type 0 where
  pub exists : c < n
  pub within : r < length (f c)
  pub same : slice_get (flat_map f (numbers n)) k ≡ slice_get (f c) r

pub found : {A : Type 0} (f : ℕ → List A) (n : ℕ) (counts : List ℕ) (k c r : ℕ) → AreLengths f n counts → FallsAt counts k c r
    → IsFound f n k c r
found f n counts k c r h a =
    let exists : c < n = rw (sym h.0) a.exists in
    let within : r < length (f c) = rw (sym (h.1 c exists)) a.within in
    record {
      exists = exists;
      within = within;
      same = ap (slice_get (flat_map f (numbers n))) (a.before ∙ ap (λ m. m + r) (before f n counts h c (omega (arith, exists))))
          ∙ inside f c n r exists within;
    }

-- ---- a loop over the numbers

pub none-counted : (t : ℕ → Bool) → 0 ≡ length (filter t (numbers 0))
unfolding those
none-counted t = refl

pub none-passed : (t : ℕ → Bool) (k : ℕ) → k ≡ length (filter t (numbers 0)) + k
none-passed t k = omega (arith, none-counted t)

pub pass-one : (t : ℕ → Bool) (n k left less : ℕ) → k ≡ length (filter t (numbers n)) + left → true ≡ t n → 0 < left → less ≡ left - 1
    → k ≡ length (filter t (numbers (n + 1))) + less
pass-one t n k left less h e l q = omega (arith, h, count-more t n true (length (filter t (numbers n))) refl e, l, q)

pub pass-none : (t : ℕ → Bool) (n k left same : ℕ) → k ≡ length (filter t (numbers n)) + left → false ≡ t n → same ≡ left
    → k ≡ length (filter t (numbers (n + 1))) + same
pass-none t n k left same h e q = omega (arith, h, count-more t n false (length (filter t (numbers n))) refl e, q)

pub this-one : (t : ℕ → Bool) (i n k left : ℕ) → k ≡ length (filter t (numbers i)) + left → left ≡ 0 → true ≡ t i → i < n
    → Some i ≡ slice_get (filter t (numbers n)) k
this-one t i n k left h z e l =
    let at : k ≡ length (filter t (numbers i)) = omega (arith, h, z) in
    sym (ap (slice_get (filter t (numbers n))) at ∙ sought t i n (sym e) l)

pub no-more : (t : ℕ → Bool) (i n k left : ℕ) → k ≡ length (filter t (numbers i)) + left → i ≡ n
    → None ≡ slice_get (filter t (numbers n)) k
no-more t i n k left h e = sym (slice_get_past (filter t (numbers n)) k (rw (← e) (omega (arith, h))))

pub counted-below : (t : ℕ → Bool) (n count : ℕ) → count ≡ length (filter t (numbers n)) → count ≤ n
counted-below t n count e = omega (arith, e, count-most t n)

pub none-pass : (t : ℕ → Bool) (xs : List ℕ) → ((k : ℕ) → t k ≡ false) → [] ≡ filter t xs
none-pass t [] h = refl
none-pass t (x ∷ xs) h = rw (h x) (none-pass t xs h)
