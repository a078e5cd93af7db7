-- The laws of masks: each bit of a sum of eight powers of two, and the bits of the three operations.
use Rattle.std.proofs.Common.{◌≡◌, ℕ, suc, zero, ◌+◌, ◌*◌, ◌/◌, ◌%◌, ◌^◌, ◌<◌, ◌≤◌, Bool, true, false, not, ◌&&◌, ◌||◌, eqb, min, max, refl}
use Rattle.std.proofs.Common.{ap, ◌∙◌, ⊎_elim, arith}
use Rattle.std.proofs.lemmas.Bool.Decides.{nat_tests}
use Rattle.std.specs.Int.{bit_at}
use Rattle.std.proofs.lemmas.Nat.Bits.{bit_at_and, bit_at_or, bit_at_xor, bit_at-lt, bit_at-zero, bit_at-pow_same, bit_at-pow_other}
use Rattle.std.proofs.lemmas.Bool.{cases_eq}
use Rattle.rules_maps.specs.Words.{num}
use Rattle.rules_maps.specs.Masks.{has, mask_of, minus, meet, join}

num-le : (b : Bool) → num b ≤ 1
num-le true = omega arith
num-le false = omega arith

one-num : (b : Bool) → eqb 1 (num b) ≡ b
one-num true = refl
one-num false = refl

-- eight numbers that are 0 or 1
pub record Bits (a b c d e f g h : ℕ) : Type 0 where
  pub at0 : a ≤ 1
  pub at1 : b ≤ 1
  pub at2 : c ≤ 1
  pub at3 : d ≤ 1
  pub at4 : e ≤ 1
  pub at5 : f ≤ 1
  pub at6 : g ≤ 1
  pub at7 : h ≤ 1

place0 : (a b c d e f g h : ℕ) → Bits a b c d e f g h → (a + 2 * b + 4 * c + 8 * d + 16 * e + 32 * f + 64 * g + 128 * h) / 2 ^ 0 % 2 ≡ a
place0 a b c d e f g h r = omega arith

place1 : (a b c d e f g h : ℕ) → Bits a b c d e f g h → (a + 2 * b + 4 * c + 8 * d + 16 * e + 32 * f + 64 * g + 128 * h) / 2 ^ 1 % 2 ≡ b
place1 a b c d e f g h r = omega arith

place2 : (a b c d e f g h : ℕ) → Bits a b c d e f g h → (a + 2 * b + 4 * c + 8 * d + 16 * e + 32 * f + 64 * g + 128 * h) / 2 ^ 2 % 2 ≡ c
place2 a b c d e f g h r = omega arith

place3 : (a b c d e f g h : ℕ) → Bits a b c d e f g h → (a + 2 * b + 4 * c + 8 * d + 16 * e + 32 * f + 64 * g + 128 * h) / 2 ^ 3 % 2 ≡ d
place3 a b c d e f g h r = omega arith

place4 : (a b c d e f g h : ℕ) → Bits a b c d e f g h → (a + 2 * b + 4 * c + 8 * d + 16 * e + 32 * f + 64 * g + 128 * h) / 2 ^ 4 % 2 ≡ e
place4 a b c d e f g h r = omega arith

place5 : (a b c d e f g h : ℕ) → Bits a b c d e f g h → (a + 2 * b + 4 * c + 8 * d + 16 * e + 32 * f + 64 * g + 128 * h) / 2 ^ 5 % 2 ≡ f
place5 a b c d e f g h r = omega arith

place6 : (a b c d e f g h : ℕ) → Bits a b c d e f g h → (a + 2 * b + 4 * c + 8 * d + 16 * e + 32 * f + 64 * g + 128 * h) / 2 ^ 6 % 2 ≡ g
place6 a b c d e f g h r = omega arith

place7 : (a b c d e f g h : ℕ) → Bits a b c d e f g h → (a + 2 * b + 4 * c + 8 * d + 16 * e + 32 * f + 64 * g + 128 * h) / 2 ^ 7 % 2 ≡ h
place7 a b c d e f g h r = omega arith

bits-of : (p : ℕ → Bool) → Bits (num (p 0)) (num (p 1)) (num (p 2)) (num (p 3)) (num (p 4)) (num (p 5)) (num (p 6)) (num (p 7))
bits-of p = record {
  at0 = num-le (p 0);
  at1 = num-le (p 1);
  at2 = num-le (p 2);
  at3 = num-le (p 3);
  at4 = num-le (p 4);
  at5 = num-le (p 5);
  at6 = num-le (p 6);
  at7 = num-le (p 7);
}

-- one of eight
below_eight : (P : ℕ → Type 0) → P 0 → P 1 → P 2 → P 3 → P 4 → P 5 → P 6 → P 7 → (k : ℕ) → k < 8 → P k
below_eight P a b c d e f g h zero _ = a
below_eight P a b c d e f g h (suc zero) _ = b
below_eight P a b c d e f g h (suc (suc zero)) _ = c
below_eight P a b c d e f g h (suc (suc (suc zero))) _ = d
below_eight P a b c d e f g h (suc (suc (suc (suc zero)))) _ = e
below_eight P a b c d e f g h (suc (suc (suc (suc (suc zero))))) _ = f
below_eight P a b c d e f g h (suc (suc (suc (suc (suc (suc zero)))))) _ = g
below_eight P a b c d e f g h (suc (suc (suc (suc (suc (suc (suc zero))))))) _ = h
below_eight P a b c d e f g h (suc (suc (suc (suc (suc (suc (suc (suc k)))))))) l = absurd (omega arith)

holds0 : (p : ℕ → Bool) → has (mask_of p) 0 ≡ p 0
unfolding has mask_of
holds0 p = ap (eqb 1) (place0 (num (p 0)) (num (p 1)) (num (p 2)) (num (p 3)) (num (p 4)) (num (p 5)) (num (p 6)) (num (p 7)) (bits-of p))
    ∙ one-num (p 0)

holds1 : (p : ℕ → Bool) → has (mask_of p) 1 ≡ p 1
unfolding has mask_of
holds1 p = ap (eqb 1) (place1 (num (p 0)) (num (p 1)) (num (p 2)) (num (p 3)) (num (p 4)) (num (p 5)) (num (p 6)) (num (p 7)) (bits-of p))
    ∙ one-num (p 1)

holds2 : (p : ℕ → Bool) → has (mask_of p) 2 ≡ p 2
unfolding has mask_of
holds2 p = ap (eqb 1) (place2 (num (p 0)) (num (p 1)) (num (p 2)) (num (p 3)) (num (p 4)) (num (p 5)) (num (p 6)) (num (p 7)) (bits-of p))
    ∙ one-num (p 2)

holds3 : (p : ℕ → Bool) → has (mask_of p) 3 ≡ p 3
unfolding has mask_of
holds3 p = ap (eqb 1) (place3 (num (p 0)) (num (p 1)) (num (p 2)) (num (p 3)) (num (p 4)) (num (p 5)) (num (p 6)) (num (p 7)) (bits-of p))
    ∙ one-num (p 3)

holds4 : (p : ℕ → Bool) → has (mask_of p) 4 ≡ p 4
unfolding has mask_of
holds4 p = ap (eqb 1) (place4 (num (p 0)) (num (p 1)) (num (p 2)) (num (p 3)) (num (p 4)) (num (p 5)) (num (p 6)) (num (p 7)) (bits-of p))
    ∙ one-num (p 4)

holds5 : (p : ℕ → Bool) → has (mask_of p) 5 ≡ p 5
unfolding has mask_of
holds5 p = ap (eqb 1) (place5 (num (p 0)) (num (p 1)) (num (p 2)) (num (p 3)) (num (p 4)) (num (p 5)) (num (p 6)) (num (p 7)) (bits-of p))
    ∙ one-num (p 5)

holds6 : (p : ℕ → Bool) → has (mask_of p) 6 ≡ p 6
unfolding has mask_of
holds6 p = ap (eqb 1) (place6 (num (p 0)) (num (p 1)) (num (p 2)) (num (p 3)) (num (p 4)) (num (p 5)) (num (p 6)) (num (p 7)) (bits-of p))
    ∙ one-num (p 6)

holds7 : (p : ℕ → Bool) → has (mask_of p) 7 ≡ p 7
unfolding has mask_of
holds7 p = ap (eqb 1) (place7 (num (p 0)) (num (p 1)) (num (p 2)) (num (p 3)) (num (p 4)) (num (p 5)) (num (p 6)) (num (p 7)) (bits-of p))
    ∙ one-num (p 7)

pub has-mask_of : (p : ℕ → Bool) (k : ℕ) → k < 8 → has (mask_of p) k ≡ p k
has-mask_of p k l = below_eight (λ k. has (mask_of p) k ≡ p k) (holds0 p) (holds1 p) (holds2 p) (holds3 p) (holds4 p) (holds5 p) (holds6 p)
    (holds7 p) k l

num-one : (x : ℕ) → x < 2 → num (eqb 1 x) ≡ x
num-one x h = grind (arith, nat_tests)

sum : (m : ℕ) → m < 256 → m / 1 % 2 + 2 * (m / 2 % 2) + 4 * (m / 4 % 2) + 8 * (m / 8 % 2) + 16 * (m / 16 % 2) + 32 * (m / 32 % 2) + 64 *
    (m / 64 % 2) + 128 * (m / 128 % 2) ≡ m
sum m h = omega arith

bits-num : (m k : ℕ) → num (has m k) ≡ bit_at m k
unfolding has
bits-num m k = num-one (bit_at m k) (bit_at-lt m k)

pub mask_of-has : (m : ℕ) → m < 256 → mask_of (has m) ≡ m
unfolding mask_of
mask_of-has m h = rw (bits-num m 0, bits-num m 1, bits-num m 2, bits-num m 3, bits-num m 4, bits-num m 5, bits-num m 6, bits-num m 7)
    (sum m h)

pub mask_of-small : (p : ℕ → Bool) → mask_of p < 256
unfolding mask_of
mask_of-small p = let r = bits-of p in omega arith

minus-bit : (a b : ℕ) → a < 2 → b < 2 → eqb 1 ((a + min a b) % 2) ≡ eqb 1 a && not (eqb 1 b)
minus-bit a b p q = grind (arith, nat_tests)

pub has-minus : (m n k : ℕ) → has (minus m n) k ≡ has m k && not (has n k)
unfolding has
has-minus m n k = rw (bit_at_xor, bit_at_and) (minus-bit (bit_at m k) (bit_at n k) (bit_at-lt m k) (bit_at-lt n k))

meet-bit : (a b : ℕ) → a < 2 → b < 2 → eqb 1 (min a b) ≡ eqb 1 a && eqb 1 b
meet-bit a b p q = grind (arith, nat_tests)

pub has-meet : (m n k : ℕ) → has (meet m n) k ≡ has m k && has n k
unfolding has
has-meet m n k = rw bit_at_and (meet-bit (bit_at m k) (bit_at n k) (bit_at-lt m k) (bit_at-lt n k))

join-bit : (a b : ℕ) → a < 2 → b < 2 → eqb 1 (max a b) ≡ eqb 1 a || eqb 1 b
join-bit a b p q = grind (arith, nat_tests)

pub has-join : (m n k : ℕ) → has (join m n) k ≡ has m k || has n k
unfolding has
has-join m n k = rw bit_at_or (join-bit (bit_at m k) (bit_at n k) (bit_at-lt m k) (bit_at-lt n k))

pow-bit : (k j : ℕ) → eqb 1 (bit_at (2 ^ k) j) ≡ eqb j k
pow-bit k j = ⊎_elim
    (λ e. ap (eqb 1) (ap (bit_at (2 ^ k)) e ∙ bit_at-pow_same k) ∙ grind (arith, nat_tests))
    (λ n. ap (eqb 1) (bit_at-pow_other k j n) ∙ grind (arith, nat_tests))
    (cases_eq j k)

pub has-pow : (k j : ℕ) → has (2 ^ k) j ≡ eqb j k
unfolding has
has-pow = pow-bit

pub has-zero : (k : ℕ) → has 0 k ≡ false
unfolding has
has-zero k = rw (bit_at-zero k)
