-- A set of cores as bits: asking for one, and putting one in or taking it out.
use Rattle.std.proofs.Common.{◌≡◌, ℕ, ◌*◌, ◌/◌, ◌%◌, ◌^◌, ◌<◌, Bool, true, false, not, ◌&&◌, ◌||◌, ◌==◌, if◌then◌else◌, eqb, refl, ap, ◌∙◌}
use Rattle.std.proofs.Common.{arith}
use Rattle.std.specs.Int.Bits.{bit_and, bit_or, bit_xor}
use Rattle.std.proofs.lemmas.Bool.Decides.{nat_tests}
use Rattle.std.proofs.lemmas.Grind.{common_steps}
use Rattle.rules_maps.specs.Masks.{has}
use Rattle.rules_maps.proofs.Lemmas.{has-join, has-minus, has-pow}

pub has-odd : (m k : ℕ) → (m / 2 ^ k % 2 == 1) ≡ has m k
unfolding has
has-odd m k = grind (arith, nat_tests)

one-shifted : (c : ℕ) → c < 64 → 1 * 2 ^ c % 18446744073709551616 ≡ 2 ^ c
one-shifted c h = grind (arith, common_steps)

or-choice : (a b : Bool) → a || b ≡ (if b then true else a)
or-choice true true = refl
or-choice true false = refl
or-choice false true = refl
or-choice false false = refl

and_not-choice : (a b : Bool) → (a && not b) ≡ (if b then false else a)
and_not-choice true true = refl
and_not-choice true false = refl
and_not-choice false true = refl
and_not-choice false false = refl

pub has-with : (m c k : ℕ) → c < 64 → has (bit_or m (1 * 2 ^ c % 18446744073709551616)) k ≡ (if k == c then true else has m k)
has-with m c k h = ap (λ x. has (bit_or m x) k) (one-shifted c h)
    ∙ (has-join m (2 ^ c) k ∙ (ap (λ b. has m k || b) (has-pow c k) ∙ or-choice (has m k) (eqb k c)))

pub has-without : (m c k : ℕ) → c < 64
    → has (bit_xor m (bit_and m (1 * 2 ^ c % 18446744073709551616))) k ≡ (if k == c then false else has m k)
has-without m c k h = ap (λ x. has (bit_xor m (bit_and m x)) k) (one-shifted c h)
    ∙ (has-minus m (2 ^ c) k ∙ (ap (λ b. has m k && not b) (has-pow c k) ∙ and_not-choice (has m k) (eqb k c)))

pub ruleset core_bits = (has-odd, has-with, has-without)
