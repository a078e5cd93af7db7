-- All digits of a number.
use Rattle.std.proofs.Common.{◌≡◌, ℕ, zero, suc, ◌+◌, ◌-◌, ◌*◌, ◌/◌, ◌%◌, ◌<◌, ◌≤◌, ◌^◌, List, [], ◌∷◌, ◌++◌, All}
use Rattle.std.proofs.Common.{Bool, true, false, nat_lt, refl, sym, ap, ◌∙◌, subst, arith, le-ltb, lt-ltb, ltb-false, ltb-true}
use Rattle.std.specs.Fmt.{decimal}
use Rattle.std.proofs.lemmas.Fmt.{decimal_digit, decimal_step}
use Rattle.std.proofs.lemmas.List.Elements.{All-append, All-cons, All-nil}
use Rattle.row_text.specs.Rows.{last_digits, number_text, numeral}

-- the digits of a number below ten, and of another
one-digit : (k n : ℕ) → n < 10 → last_digits (suc k) n ≡ (48 + n % 10) ∷ []
unfolding last_digits
one-digit k n small = rw (lt-ltb n 10 small) refl

more-digits : (k n : ℕ) → 10 ≤ n → last_digits (suc k) n ≡ last_digits k (n / 10) ++ (48 + n % 10) ∷ []
unfolding last_digits
more-digits k n large = rw (le-ltb n 10 large) refl

-- a fact of all digits by induction: one digit, then one more behind
digits-by : (P : ℕ → List ℕ → Type 0) → ((n : ℕ) → n < 10 → P n ((48 + n % 10) ∷ []))
    → ((n : ℕ) (ds : List ℕ) → 10 ≤ n → P (n / 10) ds → P n (ds ++ (48 + n % 10) ∷ [])) → (k n : ℕ) → n < k → P n (last_digits k n)
digits-by P one more zero n low = absurd (omega arith)
digits-by P one more (suc k) n low = go (nat_lt n 10) refl (λ le. digits-by P one more k (n / 10) (omega arith))
  where
    go : (b : Bool) → nat_lt n 10 ≡ b → (10 ≤ n → P (n / 10) (last_digits k (n / 10))) → P n (last_digits (suc k) n)
    go true small before = let lt = ltb-true n 10 small in subst (P n) (sym (one-digit k n lt)) (one n lt)
    go false large before =
        let le = ltb-false n 10 large in
        subst (P n) (sym (more-digits k n le)) (more n (last_digits k (n / 10)) le (before le))

-- below 2^64 they are what std writes
pub numeral-decimal : (n : ℕ) → n < 2 ^ 64 → numeral n ≡ decimal n
unfolding numeral
numeral-decimal n small = digits-by (λ m ds. m < 2 ^ 64 → ds ≡ decimal m)
    (λ m low fits. ap (λ (d : ℕ). (48 + d) ∷ []) (omega arith) ∙ sym (decimal_digit m low))
    (λ m ds le same fits. ap (λ (es : List ℕ). es ++ (48 + m % 10) ∷ []) (same (omega arith)) ∙ sym (decimal_step m le fits))
    (n + 1) n (omega arith) small

pub number_text_decimal : (n : ℕ) → n < 2 ^ 64 → number_text n ≡ 32 ∷ decimal n
unfolding number_text
number_text_decimal n small = ap (λ (ds : List ℕ). 32 ∷ ds) (numeral-decimal n small)

-- each digit is above the space
pub numeral-above : (n : ℕ) → All (λ b. 32 < b) (numeral n)
unfolding numeral
numeral-above n = digits-by (λ m ds. All (λ b. 32 < b) ds)
    (λ m low. above m)
    (λ m ds le before. All-append (λ b. 32 < b) ds ((48 + m % 10) ∷ []) before (above m))
    (n + 1) n (omega arith)
  where
    above : (m : ℕ) → All (λ b. 32 < b) ((48 + m % 10) ∷ [])
    above m = All-cons (λ b. 32 < b) (48 + m % 10) [] (omega arith) (All-nil (λ b. 32 < b))

-- the number that digits write, behind those of another
abbrev value-from : ℕ → List ℕ → ℕ
value-from a [] = a
value-from a (d ∷ ds) = value-from (10 * a + (d - 48)) ds

value-last : (a : ℕ) (ds : List ℕ) (r : ℕ) → value-from a (ds ++ (48 + r) ∷ []) ≡ 10 * value-from a ds + r
value-last a [] r = omega arith
value-last a (d ∷ ds) r = value-last (10 * a + (d - 48)) ds r

value-numeral : (n : ℕ) → value-from 0 (numeral n) ≡ n
unfolding numeral
value-numeral n = digits-by (λ m ds. value-from 0 ds ≡ m)
    (λ m low. value-last 0 [] (m % 10) ∙ omega arith)
    (λ m ds le same. value-last 0 ds (m % 10) ∙ omega (arith, same))
    (n + 1) n (omega arith)

-- two numbers have two texts
pub numeral-injective : (m n : ℕ) → numeral m ≡ numeral n → m ≡ n
numeral-injective m n e = sym (value-numeral m) ∙ ap (value-from 0) e ∙ value-numeral n
