-- Texts that grow by the lines of records: of one record more, and of one number more below a bound.
use Rattle.std.proofs.Common.{◌≡◌, ℕ, zero, suc, ◌+◌, ◌<◌, ◌≤◌, nat_lt, lt-ltb, Bool, true, false, not, codes, cond, ◌||◌, ◌&&◌, List}
use Rattle.std.proofs.Common.{[], ◌∷◌, ◌++◌, refl, ap, sym, ◌∙◌, arith, append-nil}
use Rattle.std.proofs.lemmas.Bool.Decides.{nat_tests}
use Rattle.std.proofs.lemmas.List.{append_assoc}
use Rattle.std.specs.List.{flat_map}
use Rattle.std.proofs.lemmas.List.Concat.{flat_map-append}
use Rattle.base_lemmas.proofs.Lemmas.{flat-last, those-same}
use Rattle.rules_maps.specs.Words.{any_below, those}
use Rattle.rules_tcc.specs.Seen.{numbers}
use Rattle.watch_state.specs.Cores.{owed_record}
use Rattle.watch_state.specs.Records.{Record, OwedBy}
use Rattle.watch_state.specs.Lines.{led_lines, number_words, numbers_or_none, record_line, record_lines}

pub lines-none : record_lines [] ≡ []
unfolding record_lines
lines-none = refl

pub lines-cons : (r : Record) (rs : List Record) → record_lines (r ∷ rs) ≡ record_line r ++ record_lines rs
unfolding record_lines
lines-cons r rs = refl

pub lines-append : (rs ss : List Record) → record_lines (rs ++ ss) ≡ record_lines rs ++ record_lines ss
unfolding record_lines
lines-append rs ss = flat_map-append record_line rs ss

pub ruleset line_laws = (lines-none, lines-cons, lines-append)

-- with nothing before each line
pub led-none : (rs : List Record) → led_lines (codes "") rs ≡ record_lines rs
unfolding led_lines record_lines
led-none rs = refl

pub those-more : {A : Type 0} (f : ℕ → List A) (p : ℕ → Bool) (n : ℕ)
    → flat_map f (those p (n + 1)) ≡ flat_map f (those p n) ++ cond (p n) (f n) []
those-more f p n =
    let e : n + 1 ≡ suc n = omega arith in
    ap (λ m. flat_map f (those p m)) e ∙ flat-last f p n

pub numbers-more : {A : Type 0} (f : ℕ → List A) (n : ℕ) → flat_map f (numbers (n + 1)) ≡ flat_map f (numbers n) ++ f n
numbers-more f n = those-more f (λ k. true) n

-- what is appended for one number more
pub piece-more : {A : Type 0} (f : ℕ → List A) (n : ℕ) (old now new : List A) → now ≡ old ++ flat_map f (numbers n) → new ≡ now ++ f n
    → new ≡ old ++ flat_map f (numbers (n + 1))
piece-more f n old now new h e =
    e ∙ ap (λ t. t ++ f n) h ∙ append_assoc old (flat_map f (numbers n)) (f n) ∙ ap (λ t. old ++ t) (sym (numbers-more f n))

pub lines-more : (f : ℕ → List Record) (n : ℕ) (old now new : List ℕ) → now ≡ old ++ record_lines (flat_map f (numbers n))
    → new ≡ now ++ record_lines (f n) → new ≡ old ++ record_lines (flat_map f (numbers (n + 1)))
lines-more f n old now new h e =
    e ∙ ap (λ t. t ++ record_lines (f n)) h ∙ append_assoc old (record_lines (flat_map f (numbers n))) (record_lines (f n))
    ∙ ap (λ t. old ++ t) (sym (lines-append (flat_map f (numbers n)) (f n)))
    ∙ ap (λ rs. old ++ record_lines rs) (sym (numbers-more f n))

-- those below a bound of which there is one
pub none-below : (p : ℕ → Bool) (n : ℕ) → any_below p n ≡ false → those p n ≡ []
unfolding any_below those
none-below p zero e = refl
none-below p (suc n) e = go (any_below p n) (λ h. none-below p n h) (p n) refl e
  where
    go : (a : Bool) → (a ≡ false → those p n ≡ []) → (b : Bool) → p n ≡ b → (a || b) ≡ false → those p n ++ cond (p n) (n ∷ []) [] ≡ []
    go true h b k z = absurd (cc)
    go false h true k z = absurd (cc)
    go false h false k z = rw k (append-nil (those p n) ∙ h refl)

-- a list that isn't empty
abbrev pub IsMore : List ℕ → Type 0
IsMore [] = ⊥
IsMore (n ∷ ns) = Unit {0}

more-append : (xs ys : List ℕ) → IsMore xs → IsMore (xs ++ ys)
more-append [] ys m = absurd m
more-append (x ∷ xs) ys m = m

more-last : (xs : List ℕ) (n : ℕ) → IsMore (xs ++ n ∷ [])
more-last [] n = record {}
more-last (x ∷ xs) n = record {}

pub some-below : (p : ℕ → Bool) (n : ℕ) → any_below p n ≡ true → IsMore (those p n)
unfolding any_below those
some-below p zero e = absurd (cc)
some-below p (suc n) e = go (any_below p n) (λ h. some-below p n h) (p n) refl e
  where
    go : (a : Bool) → (a ≡ true → IsMore (those p n)) → (b : Bool) → p n ≡ b → (a || b) ≡ true
        → IsMore (those p n ++ cond (p n) (n ∷ []) [])
    go true h b k z = more-append (those p n) (cond (p n) (n ∷ []) []) (h refl)
    go false h true k z = rw k (more-last (those p n) n)
    go false h false k z = absurd (cc)

or-none-more : (ns : List ℕ) → IsMore ns → numbers_or_none ns ≡ number_words ns
or-none-more [] m = absurd m
or-none-more (n ∷ ns) m = refl

owed-more : (c : ℕ) (ns : List ℕ) → IsMore ns → owed_record c ns ≡ OwedBy c ns ∷ []
owed-more c [] m = absurd m
owed-more c (n ∷ ns) m = refl

pub none-written : (p : ℕ → Bool) (n : ℕ) → any_below p n ≡ false → numbers_or_none (those p n) ≡ codes " none"
none-written p n e = ap numbers_or_none (none-below p n e)

pub some-written : (p : ℕ → Bool) (n : ℕ) → any_below p n ≡ true → numbers_or_none (those p n) ≡ number_words (those p n)
some-written p n e = or-none-more (those p n) (some-below p n e)

pub none-owed : (c : ℕ) (p : ℕ → Bool) (n : ℕ) → any_below p n ≡ false → owed_record c (those p n) ≡ []
none-owed c p n e = ap (λ ns. owed_record c ns) (none-below p n e)

pub some-owed : (c : ℕ) (p : ℕ → Bool) (n : ℕ) → any_below p n ≡ true → owed_record c (those p n) ≡ OwedBy c (those p n) ∷ []
some-owed c p n e = owed-more c (those p n) (some-below p n e)

pub ruleset number_cases = (none-written, some-written)

-- what comes behind, and then behind that
pub then : {A : Type 0} (rs ss old now new : List A) → now ≡ old ++ rs → new ≡ now ++ ss → new ≡ old ++ (rs ++ ss)
then rs ss old now new h e = e ∙ ap (λ t. t ++ ss) h ∙ append_assoc old rs ss

-- records behind records
pub lines-then : (rs ss : List Record) (old now new : List ℕ) → now ≡ old ++ record_lines rs → new ≡ now ++ record_lines ss
    → new ≡ old ++ record_lines (rs ++ ss)
lines-then rs ss old now new h e =
    e ∙ ap (λ t. t ++ record_lines ss) h ∙ append_assoc old (record_lines rs) (record_lines ss)
    ∙ ap (λ t. old ++ t) (sym (lines-append rs ss))

-- one number more, which isn't in the set or below the bound
within-more : (p q : ℕ → Bool) (n m : ℕ) → (n ≤ m → those p m ≡ those q n) → n ≤ suc m → ((k : ℕ) → k < n → p k ≡ q k)
    → ((k : ℕ) → n ≤ k → p k ≡ false) → those p (suc m) ≡ those q n
unfolding those
within-more p q n m ih b same none = go (nat_lt m n) refl
  where
    go : (t : Bool) → nat_lt m n ≡ t → (those p m ++ cond (p m) (m ∷ []) []) ≡ those q n
    go true e =
        let one : suc m ≡ n = grind (arith, nat_tests) in
        ap (λ k. those p k) one ∙ those-same p q n same
    go false e =
        let le : n ≤ m = grind (arith, nat_tests) in
        rw (none m le) (append-nil (those p m) ∙ ih le)

-- the numbers of a set that has none from a bound on
those-within : (p q : ℕ → Bool) (n m : ℕ) → n ≤ m → ((k : ℕ) → k < n → p k ≡ q k) → ((k : ℕ) → n ≤ k → p k ≡ false)
    → those p m ≡ those q n
unfolding those
those-within p q n zero b same none =
    let e : zero ≡ n = omega (arith, b) in
    ap (λ k. those q k) e
those-within p q n (suc m) b same none = within-more p q n m (λ h. those-within p q n m h same none) b same none

-- a set without its numbers from a bound on
pub within-alone : (p q : ℕ → Bool) (n : ℕ) → n ≤ 64 → q ≡ (λ d. p d && not (p d && not (nat_lt d n))) → those q 64 ≡ those p n
within-alone p q n b e =
    let here : (k : ℕ) → k < n → q k ≡ p k = λ k h. ap (λ f. f k) e ∙ at_here (p k) (nat_lt k n) (lt-ltb k n h) in
    let past : (k : ℕ) → n ≤ k → q k ≡ false = λ k h. ap (λ f. f k) e ∙ at_past (p k) (nat_lt k n) (grind (arith, nat_tests)) in
    those-within q p n 64 b here past
  where
    at_here : (a c : Bool) → c ≡ true → (a && not (a && not c)) ≡ a
    at_here true true h = refl
    at_here false true h = refl
    at_here a false h = absurd (cc)

    at_past : (a c : Bool) → c ≡ false → (a && not (a && not c)) ≡ false
    at_past true false h = refl
    at_past false false h = refl
    at_past a true h = absurd (cc)
