-- A number in hexadecimal digits with zeros in front is its last digits.
use Rattle.std.proofs.Common.{◌≡◌, ℕ, zero, suc, ◌+◌, ◌-◌, ◌/◌, ◌%◌, ◌<◌, ◌≤◌, ◌^◌, Bool, true, false, List, [], ◌∷◌, ◌++◌, length}
use Rattle.std.proofs.Common.{replicate, refl, ap, sym, ◌∙◌, arith}
use Rattle.std.proofs.lemmas.Bool.Decides.{nat_tests}
use Rattle.std.proofs.lemmas.Grind.{common_steps}
use Rattle.std.specs.Prelude.{◌==◌, if◌then◌else◌}
use Rattle.std.specs.Fmt.{char_count, digit_glyph, digits_onto, digits, padded_integral}
use Rattle.base_digits.specs.Digits.{hex}
use Rattle.base_digits.specs.Digits.{last_digits}

zeros-shift : (w : ℕ) (more : List ℕ) → replicate w 48 ++ 48 ∷ more ≡ 48 ∷ replicate w 48 ++ more
zeros-shift zero more = refl
zeros-shift (suc w) more = ap (λ ds. 48 ∷ ds) (zeros-shift w more)

digits-of_zero : (w : ℕ) (more : List ℕ) → last_digits w 0 more ≡ replicate w 48 ++ more
unfolding last_digits
digits-of_zero zero more = refl
digits-of_zero (suc w) more = digits-of_zero w (48 ∷ more) ∙ zeros-shift w more

-- what is left of a number without its last w digits
left : (w n : ℕ) → ℕ
left zero n = n
left (suc w) n = left w (n / 16)

-- one digit in front of more, and what is written in front of it
abbrev onto : (k n : ℕ) → List ℕ → Bool → List ℕ
onto k n more last =
    if last then digit_glyph false (n % 16) ∷ more else digits_onto k 16 false (n / 16) (digit_glyph false (n % 16) ∷ more)

zeros-in-front : (w k n : ℕ) (more : List ℕ) → left w n ≡ 0 → 0 < w → w ≤ k
    → replicate (w + length more - length (digits_onto k 16 false n more)) 48 ++ digits_onto k 16 false n more ≡ last_digits w n more
unfolding last_digits left
zeros-in-front zero k n more l p h = absurd (omega (arith, p))
zeros-in-front (suc w) zero n more l p h = absurd (omega (arith, h))
zeros-in-front (suc w) (suc k) n more l p h =
    go (n / 16 == 0) refl (λ s. zeros-in-front w k (n / 16) (digit_glyph false (n % 16) ∷ more) l s (omega (arith, h)))
  where
    some : (v : ℕ) → left v (n / 16) ≡ 0 → (n / 16 ≡ 0 → ⊥) → 0 < v
    some zero z r = absurd (r z)
    some (suc v) z r = omega arith

    go : (b : Bool) → (n / 16 == 0) ≡ b
        → (0 < w → replicate (w + length (digit_glyph false (n % 16) ∷ more) - length (onto k n more false)) 48 ++ onto k n more false
        ≡ last_digits w (n / 16) (digit_glyph false (n % 16) ∷ more))
        → replicate (suc w + length more - length (onto k n more b)) 48 ++ onto k n more b
        ≡ last_digits w (n / 16) (digit_glyph false (n % 16) ∷ more)
    go true e next =
        let none : n / 16 ≡ 0 = grind (arith, nat_tests) in
        let all : suc w + length more - length (digit_glyph false (n % 16) ∷ more) ≡ w = omega arith in
        ap (λ j. replicate j 48 ++ digit_glyph false (n % 16) ∷ more) all ∙ sym (digits-of_zero w (digit_glyph false (n % 16) ∷ more))
        ∙ ap (λ m. last_digits w m (digit_glyph false (n % 16) ∷ more)) (sym none)
    go false e next =
        let one : n / 16 ≡ 0 → ⊥ = λ z. grind (arith, nat_tests) in
        let same : suc w + length more ≡ w + length (digit_glyph false (n % 16) ∷ more) = omega arith in
        ap (λ j. replicate (j - length (onto k n more false)) 48 ++ onto k n more false) same ∙ next (some w l one)

left-eight : (n : ℕ) → n < 2 ^ 32 → left 8 n ≡ 0
unfolding left
left-eight n h = omega arith

left-two : (n : ℕ) → n < 2 ^ 8 → left 2 n ≡ 0
unfolding left
left-two n h = omega arith

padded-digits : (w n : ℕ) → left w n ≡ 0 → 0 < w → w ≤ 64
    → replicate (w - length (digits 16 false n)) 48 ++ digits 16 false n ≡ last_digits w n []
unfolding digits
padded-digits w n l p h =
    let same : w ≡ w + length {A = ℕ} [] = omega arith in
    ap (λ j. replicate (j - length (digits_onto 64 16 false n [])) 48 ++ digits_onto 64 16 false n []) same ∙ zeros-in-front w 64 n [] l p h

pub eight-digits : (n : ℕ) → n < 2 ^ 32 → hex 8 n ≡ last_digits 8 n []
unfolding padded_integral char_count
eight-digits n h = let spelled = padded-digits 8 n (left-eight n h) (omega arith) (omega arith) in grind (arith, common_steps, spelled)

pub two-digits : (n : ℕ) → n < 2 ^ 8 → hex 2 n ≡ last_digits 2 n []
unfolding padded_integral char_count
two-digits n h = let spelled = padded-digits 2 n (left-two n h) (omega arith) (omega arith) in grind (arith, common_steps, spelled)

-- the digits of a number's two parts
pub two-joined : (n : ℕ) → n < 2 ^ 8 → (digit_glyph false (n / 16) ∷ []) ++ (digit_glyph false (n % 16) ∷ []) ≡ last_digits 2 n []
unfolding last_digits
two-joined n h = let first : n / 16 ≡ n / 16 % 16 = omega arith in λ i. digit_glyph false (first i) ∷ digit_glyph false (n % 16) ∷ []

pub four-joined : (n : ℕ) → last_digits 2 (n / 256) [] ++ last_digits 2 (n % 256) [] ≡ last_digits 4 n []
unfolding last_digits
four-joined n =
    let first : n / 256 / 16 % 16 ≡ n / 16 / 16 / 16 % 16 = omega arith in
    let second : n / 256 % 16 ≡ n / 16 / 16 % 16 = omega arith in
    let third : n % 256 / 16 % 16 ≡ n / 16 % 16 = omega arith in
    let fourth : n % 256 % 16 ≡ n % 16 = omega arith in
    λ i. digit_glyph false (first i) ∷ digit_glyph false (second i) ∷ digit_glyph false (third i) ∷ digit_glyph false (fourth i) ∷ []

pub eight-joined : (n : ℕ) → last_digits 4 (n / 65536) [] ++ last_digits 4 (n % 65536) [] ≡ last_digits 8 n []
unfolding last_digits
eight-joined n =
    let first : n / 65536 / 16 / 16 / 16 % 16 ≡ n / 16 / 16 / 16 / 16 / 16 / 16 / 16 % 16 = omega arith in
    let second : n / 65536 / 16 / 16 % 16 ≡ n / 16 / 16 / 16 / 16 / 16 / 16 % 16 = omega arith in
    let third : n / 65536 / 16 % 16 ≡ n / 16 / 16 / 16 / 16 / 16 % 16 = omega arith in
    let fourth : n / 65536 % 16 ≡ n / 16 / 16 / 16 / 16 % 16 = omega arith in
    let fifth : n % 65536 / 16 / 16 / 16 % 16 ≡ n / 16 / 16 / 16 % 16 = omega arith in
    let sixth : n % 65536 / 16 / 16 % 16 ≡ n / 16 / 16 % 16 = omega arith in
    let seventh : n % 65536 / 16 % 16 ≡ n / 16 % 16 = omega arith in
    let eighth : n % 65536 % 16 ≡ n % 16 = omega arith in
    λ i. digit_glyph false (first i) ∷ digit_glyph false (second i) ∷ digit_glyph false (third i) ∷ digit_glyph false (fourth i)
    ∷ digit_glyph false (fifth i) ∷ digit_glyph false (sixth i) ∷ digit_glyph false (seventh i) ∷ digit_glyph false (eighth i) ∷ []
