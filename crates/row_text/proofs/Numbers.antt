-- The digits of a number.
use Rattle.std.proofs.Common.{◌≡◌, ◌≢◌, ℕ, zero, suc, ◌<◌, ◌^◌, List, [], ◌∷◌, length, get_or, All, refl, sym, ap, ◌∙◌}
use Rattle.std.proofs.Common.{subst, arith, ne_eqb}
use Rattle.std.specs.Char.{digit_value}
use Rattle.std.specs.Fmt.{decimal}
use Rattle.std.specs.Str.{IsUtf8}
use Rattle.std.specs.Str.Parse.{AllDigits, IsNumeral, digits_value, without_leading_plus}
use Rattle.std.proofs.lemmas.Fmt.{IsAscii-decimal, decimal_digit, decimal_injective, decimal_is_IsNumeral}
use Rattle.std.proofs.lemmas.Fmt.{decimal-digits_value, first_decimal}
use Rattle.std.proofs.lemmas.Str.{IsUtf8-from_ascii}
use Rattle.std.proofs.lemmas.Str.Parse.{numerals_by_value, tells_digits}
use Rattle.row_text.specs.Rows.{IsNumber}

-- the first digit of a number
zero-first : (digits : List ℕ) → digits ≡ decimal 0 → get_or digits 0 0 ≡ 48
zero-first digits e =
    let written : decimal 0 ≡ 48 ∷ [] = decimal_digit 0 (omega arith) in
    ap (λ ds. get_or ds 0 0) (e ∙ written)

later-first : (digits : List ℕ) (n : ℕ) → suc n < 2 ^ 64 → digits ≡ decimal (suc n) → 48 < get_or digits 0 0
later-first digits n small e =
    let lead : 48 < get_or (decimal (suc n)) 0 0 = first_decimal (suc n) (omega arith) small in
    let same : get_or digits 0 0 ≡ get_or (decimal (suc n)) 0 0 = ap (λ ds. get_or ds 0 0) e in
    omega arith

pub zero-alone : (digits : List ℕ) → get_or digits 0 0 ≡ 48 → length digits ≡ 1 → IsNumber digits 0
zero-alone [] first one = absurd (omega arith)
zero-alone (d ∷ []) first one =
    let written : decimal 0 ≡ 48 ∷ [] = decimal_digit 0 (omega arith) in
    (ap (λ x. x ∷ []) first ∙ sym written, omega arith)
zero-alone (d ∷ e ∷ ds) first one = absurd (omega arith)

pub not-padded : (digits : List ℕ) (n : ℕ) → get_or digits 0 0 ≡ 48 → length digits ≢ 1 → IsNumber digits n → ⊥
not-padded digits zero first more is =
    let written : decimal 0 ≡ 48 ∷ [] = decimal_digit 0 (omega arith) in
    more (ap length (is.0 ∙ written))
not-padded digits (suc n) first more is = let lead = later-first digits n is.1 is.0 in omega arith

pub not-signed : (digits : List ℕ) (n : ℕ) → get_or digits 0 0 ≡ 43 → IsNumber digits n → ⊥
not-signed digits zero first is = let lead = zero-first digits is.0 in omega arith
not-signed digits (suc n) first is = let lead = later-first digits n is.1 is.0 in omega arith

pub numeral_of : (digits : List ℕ) (n : ℕ) → IsNumber digits n → IsNumeral 10 digits × (digits_value 10 digits ≡ n)
numeral_of digits n is = subst (λ (ds : List ℕ). IsNumeral 10 ds × (digits_value 10 ds ≡ n)) (sym is.0) (decimal_is_IsNumeral n is.1)

number-is : (digits : List ℕ) (n : ℕ) → IsNumeral 10 digits → digits_value 10 digits ≡ n → get_or digits 0 0 ≢ 48 → n < 2 ^ 64
    → IsNumber digits n
number-is digits n numeral value lead fits =
    let small : digits_value 10 digits < 2 ^ 64 = omega arith in
    let written : decimal (digits_value 10 digits) ≡ digits =
    decimal-digits_value (numerals_by_value _ tells_digits) digits numeral.1 numeral.0 (λ first. absurd (lead first)) small in
    (sym written ∙ ap decimal value, fits)

-- ---- what `from_str_radix` says of a text that begins with no plus

plus-first : (bs : List ℕ) → get_or bs 0 0 ≢ 43 → without_leading_plus bs ≡ bs
plus-first [] h = refl
plus-first (b ∷ bs) h = rw (ne_eqb b 43 h) refl

pub number-read : (digits : List ℕ) (n : ℕ) → get_or digits 0 0 ≢ 43 → get_or digits 0 0 ≢ 48
    → (IsNumeral 10 (without_leading_plus digits) × (digits_value 10 (without_leading_plus digits) < 2 ^ 64))
    × (n ≡ digits_value 10 (without_leading_plus digits))
    → IsNumber digits n
number-read digits n plus lead h =
    let k = subst (λ (ds : List ℕ). (IsNumeral 10 ds × (digits_value 10 ds < 2 ^ 64)) × (n ≡ digits_value 10 ds))
    (plus-first digits plus) h in
    let same : n ≡ digits_value 10 digits = k.1 in
    let small : digits_value 10 digits < 2 ^ 64 = k.0.1 in
    number-is digits n k.0.0 (sym k.1) lead (omega arith)

pub no-numeral : (digits : List ℕ) (m : ℕ) → get_or digits 0 0 ≢ 43
    → (IsNumeral 10 (without_leading_plus digits) × (digits_value 10 (without_leading_plus digits) < 2 ^ 64) → ⊥)
    → IsNumber digits m → ⊥
no-numeral digits m plus none is =
    let read = numeral_of digits m is in
    let value : digits_value 10 digits ≡ m = read.1 in
    let small : m < 2 ^ 64 = is.1 in
    let fits : digits_value 10 digits < 2 ^ 64 = omega arith in
    none (subst (λ (ds : List ℕ). IsNumeral 10 ds × (digits_value 10 ds < 2 ^ 64)) (sym (plus-first digits plus)) (read.0, fits))

-- digits write one number
pub one-number : (digits : List ℕ) (m n : ℕ) → IsNumber digits m → IsNumber digits n → m ≡ n
one-number digits m n a b = decimal_injective m n a.1 b.1 (sym a.0 ∙ b.0)

-- a number's digits are characters
pub number-text : (digits : List ℕ) (n : ℕ) → IsNumber digits n → IsUtf8 digits
number-text digits n is = subst IsUtf8 (sym is.0) (IsUtf8-from_ascii (decimal n) (IsAscii-decimal n is.1))

-- each digit is above the space
above-space : (ds : List ℕ) → AllDigits 10 ds → All (λ b. 32 < b) ds
above-space [] d k e lt = absurd (omega arith)
above-space (c ∷ ds) d zero e lt = go (c) d.0
  where
    go : (c : ℕ) → digit_value c < 10 → 32 < c
    go c small = grind arith
above-space (c ∷ ds) d (suc k) e lt = above-space ds d.1 k e (omega arith)

pub decimal-above : (n : ℕ) → n < 2 ^ 64 → All (λ b. 32 < b) (decimal n)
decimal-above n small = above-space (decimal n) (decimal_is_IsNumeral n small).0.1
