-- Quotients and remainders of integers, and of the words that stand for them.
use Rattle.std.proofs.Common.{◌≡◌, ◌<◌, ◌≤◌, ◌+◌, ◌-◌, ◌*◌, ◌/◌, ◌%◌, ◌^◌, ◌==◌, ◌+ℤ◌, ◌*ℤ◌, ◌<ℤ◌, ◌≤ℤ◌, neg_ℤ, ℕ, ℤ, zero, suc, pos}
use Rattle.std.proofs.Common.{negsuc, false, unsigned_abs, FitsSigned, w32, arith, refl, sym, ap, ◌∙◌, subst, ⊎_elim, mod-lt, div-add-mod'}
use Rattle.std.proofs.Common.{eq-or-lt_of_le, if◌then◌else◌}
use Rattle.std.specs.Int.{cast_unsigned, int_wrap}
use Rattle.std.specs.Prelude.{int_div, int_rem}
use Rattle.std.proofs.lemmas.Bool.Decides.{nat_tests}
use Rattle.std.proofs.lemmas.Int.{ints, of_z-to_z, int_wrap_fits}
use Rattle.rv_decode.specs.declared.instruction.RegOp.TheVariants.{Div, Rem}
use Rattle.rv_exec.specs.Laws.{Divides, DividesUnsigned, DividesSigned}
use Rattle.rv_exec.specs.Operations.{reg_result, all_ones}
use Rattle.rv_exec.specs.Words.{signed, word}

-- the word of an integer that fits is read as this integer
pub signed-word : (z : ℤ) → FitsSigned w32 z → signed (word z) ≡ z
unfolding int_wrap
signed-word z h = int_wrap_fits w32 z h

neg-times-pos : (q b : ℕ) → neg_ℤ (pos q) *ℤ pos b ≡ neg_ℤ (pos (q * b))
neg-times-pos zero b = let none : 0 * b ≡ 0 = omega arith in rw none refl
neg-times-pos (suc q) b = refl

neg-times-negsuc : (q b : ℕ) → neg_ℤ (pos q) *ℤ negsuc b ≡ pos (q * suc b)
neg-times-negsuc zero b = let none : 0 * suc b ≡ 0 = omega arith in rw none refl
neg-times-negsuc (suc q) b = refl

-- the sum of two integers that aren't above zero
negs : (m r : ℕ) → neg_ℤ (pos m) +ℤ neg_ℤ (pos r) ≡ neg_ℤ (pos (m + r))
negs m r = omega (arith, ints)

equation : (x y : ℤ) → int_div x y *ℤ y +ℤ int_rem x y ≡ x
equation (pos a) (pos b) = ap pos (div-add-mod' a b)
equation (pos a) (negsuc b) =
    ap (λ z. z +ℤ pos (a % suc b)) (neg-times-negsuc (a / suc b) b) ∙ ap pos (div-add-mod' a (suc b))
equation (negsuc a) (pos b) =
    ap (λ z. z +ℤ neg_ℤ (pos (suc a % b))) (neg-times-pos (suc a / b) b)
    ∙ negs (suc a / b * b) (suc a % b)
    ∙ ap (λ n. neg_ℤ (pos n)) (div-add-mod' (suc a) b)
equation (negsuc a) (negsuc b) =
    negs (suc a / suc b * suc b) (suc a % suc b) ∙ ap (λ n. neg_ℤ (pos n)) (div-add-mod' (suc a) (suc b))

unsigned_abs-neg : (r : ℕ) → unsigned_abs (neg_ℤ (pos r)) ≡ r
unsigned_abs-neg zero = refl
unsigned_abs-neg (suc r) = refl

smaller : (x y : ℤ) → 0 < unsigned_abs y → unsigned_abs (int_rem x y) < unsigned_abs y
smaller (pos a) y some = mod-lt a some
smaller (negsuc a) y some =
    subst (λ r. r < unsigned_abs y) (sym (unsigned_abs-neg (suc a % unsigned_abs y))) (mod-lt (suc a) some)

sign : (x y : ℤ) → (pos 0 ≤ℤ x → pos 0 ≤ℤ int_rem x y) × (x <ℤ pos 0 → int_rem x y ≤ℤ pos 0)
sign (pos a) y = (λ h. omega (arith, ints), λ h. absurd (omega (arith, ints)))
sign (negsuc a) y = (λ h. absurd (omega (arith, ints)), λ h. omega (arith, ints))

divides : (x y : ℤ) → 0 < unsigned_abs y → Divides x y (int_div x y) (int_rem x y)
divides x y some = record { equation = equation x y; smaller = smaller x y some; sign = sign x y }

signed_fits : (a : ℕ) → a < 2 ^ 32 → FitsSigned w32 (signed a)
signed_fits a h = omega (arith, ints)

quotient_fits : (x y : ℤ) → FitsSigned w32 x → (y ≡ negsuc 0 → x ≡ negsuc (2 ^ 31 - 1) → ⊥) → FitsSigned w32 (int_div x y)
quotient_fits (pos n) (pos m) h k = let split = div-add-mod' n m in omega (arith, ints)
quotient_fits (pos n) (negsuc m) h k = let split = div-add-mod' n (suc m) in omega (arith, ints)
quotient_fits (negsuc n) (pos m) h k = let split = div-add-mod' (suc n) m in omega (arith, ints)
quotient_fits (negsuc n) (negsuc zero) h k =
    let most : n ≤ 2 ^ 31 - 1 = omega (arith, ints) in
    ⊎_elim (λ e. absurd (k refl (ap negsuc e))) (λ less. omega (arith, ints)) (eq-or-lt_of_le most)
quotient_fits (negsuc n) (negsuc (suc m)) h k = let split = div-add-mod' (suc n) (suc (suc m)) in omega (arith, ints)

remainder_fits : (x y : ℤ) → FitsSigned w32 x → FitsSigned w32 (int_rem x y)
remainder_fits (pos n) y h = let split = div-add-mod' n (unsigned_abs y) in omega (arith, ints)
remainder_fits (negsuc n) y h = let split = div-add-mod' (suc n) (unsigned_abs y) in omega (arith, ints)

signed_some : (b : ℕ) → b < 2 ^ 32 → 0 < b → 0 < unsigned_abs (signed b)
signed_some b h some = grind (arith, nat_tests, ints)

not_zero : (b : ℕ) → 0 < b → b == 0 ≡ false
not_zero b some = grind (arith, nat_tests)

-- the bits of a word that is read as this integer
bits_of : (a : ℕ) → a < 2 ^ 32 → {z : ℤ} → signed a ≡ z → a ≡ cast_unsigned w32 z
bits_of a h is = sym (of_z-to_z w32 a h) ∙ ap (cast_unsigned w32) is

pub divides_signed : DividesSigned
divides_signed a b h k some no_overflow =
    let x = signed a in
    let y = signed b in
    let fits = quotient_fits x y (signed_fits a h)
    (λ last first. no_overflow (bits_of b k last) (bits_of a h first)) in
    let quotient : signed (reg_result Div a b) ≡ int_div x y =
    ap (λ t. signed (if t then all_ones else word (int_div x y))) (not_zero b some) ∙ signed-word (int_div x y) fits in
    let remainder : signed (reg_result Rem a b) ≡ int_rem x y =
    ap (λ t. signed (if t then a else word (int_rem x y))) (not_zero b some)
    ∙ signed-word (int_rem x y) (remainder_fits x y (signed_fits a h)) in
    subst (λ q. Divides x y q (signed (reg_result Rem a b))) (sym quotient)
    (subst (Divides x y (int_div x y)) (sym remainder) (divides x y (signed_some b k some)))

pub divides_unsigned : DividesUnsigned
divides_unsigned a b some =
    let zero_not = not_zero b some in (
      subst (λ t. (if t then all_ones else a / b) * b + (if t then a else a % b) ≡ a) (sym zero_not) (div-add-mod' a b),
      subst (λ t. (if t then a else a % b) < b) (sym zero_not) (mod-lt a some),
    )
