-- The high word of a product.
use Rattle.std.proofs.Common.{◌≡◌, ◌<◌, ◌≤◌, ◌+◌, ◌-◌, ◌*◌, ◌+ℤ◌, ◌*ℤ◌, ◌/◌, ◌%◌, ◌^◌, ℕ, ℤ, suc, pos, negsuc, Bool, true, false, cond, ltb}
use Rattle.std.proofs.Common.{unsigned_abs, FitsSigned, w32, w64, arith, lit<, refl, sym, ap, ◌∙◌, mod-lt, div-add-mod'}
use Rattle.std.specs.Int.{cast_unsigned, int_div_euclid, int_wrap}
use Rattle.std.proofs.lemmas.Bool.Decides.{nat_tests}
use Rattle.std.proofs.lemmas.Int.{ints, fits_signed_mul, of_z-to_z, int_rem_euclid_is, wrapping_mul-bits}
use Rattle.rv_decode.specs.declared.instruction.RegOp.TheVariants.{Mul}
use Rattle.rv_exec.specs.Laws.{WordsMakeTheProducts}
use Rattle.rv_exec.specs.Operations.{high_word, reg_result}
use Rattle.rv_exec.specs.Words.{signed, word}
use Rattle.rv_exec.proofs.Divisions.{signed-word}

-- the upper 32 of the 64 bits that stand for an integer in two's complement
pub high_word_of_bits : (z : ℤ) → FitsSigned w64 z → cast_unsigned w64 z / 2 ^ 32 ≡ high_word z
high_word_of_bits (pos n) h = omega (arith, ints)
high_word_of_bits (negsuc n) h = omega (arith, ints)

pub unsigned_abs-signed : (w : ℕ) → w < 2 ^ 32 → unsigned_abs (signed w) ≤ 2 ^ 31
unsigned_abs-signed w h = grind (arith, nat_tests, ints)

-- the product of two signed words fits 64 bits
pub product_fits : (a b : ℕ) → a < 2 ^ 32 → b < 2 ^ 32 → FitsSigned w64 (signed a *ℤ signed b)
product_fits a b h k =
    fits_signed_mul w64 (signed a) (signed b) (2 ^ 31) (2 ^ 31) (unsigned_abs-signed a h) (unsigned_abs-signed b k) (lit< tt)

pub high_word_of_product : (a b bits : ℕ) (x y : ℤ) → a < 2 ^ 32 → b < 2 ^ 32 → x ≡ signed a → y ≡ signed b →
    bits ≡ cast_unsigned w64 (x *ℤ y) → bits / 2 ^ 32 ≡ high_word (signed a *ℤ signed b)
high_word_of_product a b bits x y h k e f g =
    rw (g, e, f) (high_word_of_bits (signed a *ℤ signed b) (product_fits a b h k))

-- an integer is its quotient by 2^32, rounded down, and its word
whole : (z : ℤ) → int_div_euclid z (pos (2 ^ 32)) *ℤ pos (2 ^ 32) +ℤ pos (word z) ≡ z
whole (pos n) = omega (arith, ints)
whole (negsuc n) = omega (arith, ints)

high_fits : (z : ℤ) → FitsSigned w64 z → FitsSigned w32 (int_div_euclid z (pos (2 ^ 32)))
high_fits (pos n) h = omega (arith, ints)
high_fits (negsuc n) h = omega (arith, ints)

-- the high word, read as signed, and the low word
halves : (z : ℤ) (low : ℕ) → FitsSigned w64 z → low ≡ word z → signed (high_word z) *ℤ pos (2 ^ 32) +ℤ pos low ≡ z
halves z low h is =
    ap (λ d. d *ℤ pos (2 ^ 32) +ℤ pos low) (signed-word (int_div_euclid z (pos (2 ^ 32))) (high_fits z h))
    ∙ ap (λ l. int_div_euclid z (pos (2 ^ 32)) *ℤ pos (2 ^ 32) +ℤ pos l) is
    ∙ whole z

word_below : (z : ℤ) → word z < 2 ^ 32
word_below (pos n) = omega (arith, ints)
word_below (negsuc n) = omega (arith, ints)

-- the low word of the product of two signed words
low_signed : (a b : ℕ) → a < 2 ^ 32 → b < 2 ^ 32 → a * b % 2 ^ 32 ≡ word (signed a *ℤ signed b)
unfolding int_wrap
low_signed a b h k =
    sym (of_z-to_z w32 (a * b % 2 ^ 32) (mod-lt (a * b) (lit< tt)))
    ∙ ap (cast_unsigned w32) (wrapping_mul-bits w32 a b h k)
    ∙ of_z-to_z w32 (word (signed a *ℤ signed b)) (word_below (signed a *ℤ signed b))

-- the low word of the product of a signed word and an unsigned one
low_negative : (n a b : ℕ) → suc n + a ≡ 2 ^ 32 → a * b % 2 ^ 32 ≡ word (negsuc n *ℤ pos b)
low_negative n a b e =
    let times : (suc n + a) * b ≡ 2 ^ 32 * b = ap (λ t. t * b) e in
    let up = int_rem_euclid_is (negsuc n *ℤ pos b) (pos (2 ^ 32)) (2 ^ 32) b (a * b) (lit< tt) refl (omega (arith, ints, times)) in
    sym (ap unsigned_abs up)

low_mixed : (a b : ℕ) → a < 2 ^ 32 → a * b % 2 ^ 32 ≡ word (signed a *ℤ pos b)
low_mixed a b h = by (ltb a (2 ^ 31))
  where
    by : (t : Bool) → a * b % 2 ^ 32 ≡ word (cond t (pos a) (negsuc (2 ^ 32 - suc a)) *ℤ pos b)
    by true = refl
    by false = low_negative (2 ^ 32 - suc a) a b (omega (arith, h))

mixed_fits : (a b : ℕ) → a < 2 ^ 32 → b < 2 ^ 32 → FitsSigned w64 (signed a *ℤ pos b)
mixed_fits a b h k =
    fits_signed_mul w64 (signed a) (pos b) (2 ^ 31) (2 ^ 32 - 1) (unsigned_abs-signed a h) (omega (arith, k)) (lit< tt)

pub words_make_the_products : WordsMakeTheProducts
words_make_the_products = record {
  mulhu = λ a b. div-add-mod' (a * b) (2 ^ 32);
  mulh = λ a b h k. halves (signed a *ℤ signed b) (reg_result Mul a b) (product_fits a b h k) (low_signed a b h k);
  mulhsu = λ a b h k. halves (signed a *ℤ pos b) (reg_result Mul a b) (mixed_fits a b h k) (low_mixed a b h);
}
