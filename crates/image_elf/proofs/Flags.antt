-- A flag that is bit 0, as the code tests it and as the definitions do.
use Rattle.std.proofs.Common.{◌≡◌, ℕ, ◌%◌, not, nat_eq, bit_and, arith}
use Rattle.std.proofs.lemmas.Nat.{and_mask}
use Rattle.std.specs.Prelude.{◌==◌}
use Rattle.std.proofs.lemmas.Bool.Decides.{nat_tests}

bit_0_test : (n k : ℕ) → k ≡ n % 2 → not (nat_eq k 0) ≡ (n % 2 == 1)
bit_0_test n k e = grind (arith, nat_tests)

pub flag-set : (n : ℕ) → not (nat_eq (bit_and n 1) 0) ≡ (n % 2 == 1)
flag-set n = bit_0_test n (bit_and n 1) (and_mask n 1)
