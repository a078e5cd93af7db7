-- The remainder by a power of two.
use Rattle.std.proofs.Common.{ℕ, zero, suc, ◌+◌, ◌-◌, ◌*◌, ◌/◌, ◌%◌, ◌^◌, ◌≤◌, ◌≡◌, inl, inr, arith}
use Rattle.std.specs.Bool.{IsTrue}
use Rattle.std.specs.Int.{is_power_of_two}
use Rattle.std.specs.Int.RustNames.{bit_and, count_ones}
use Rattle.std.proofs.lemmas.Bool.{cases_eq}
use Rattle.std.proofs.lemmas.Bool.Decides.{nat_tests}
use Rattle.std.proofs.lemmas.Nat.{and_mask, ones_le_self, zero_from_ones}
use lib.Count.{ones_step}
use native.Mathlib.Nat.{pow-suc}

power-of : (d n : ℕ) → n ≤ d → count_ones n ≡ 1 → (k : ℕ) × (n ≡ 2 ^ k)
power-of zero n b e = absurd (omega (arith, ones_le_self n))
power-of (suc d) n b e =
    let s = ones_step n in
    elim (cases_eq (n % 2) 0) [
      | inl z ↦ (let half = power-of d (n / 2) (omega (arith, b)) (omega (arith, s, z, e)) in
          let p : 2 ^ suc half.0 ≡ 2 ^ half.0 * 2 = pow-suc 2 half.0 in
          (suc half.0, omega (arith, half.1, z, p)))
      | inr o ↦ (let none = zero_from_ones (n / 2) (omega (arith, s, o, e)) in (0, omega (arith, none, o)))
    ]

last-bits : (x k n : ℕ) → n ≡ 2 ^ k → bit_and x (n - 1) ≡ x % n
last-bits x k n e = rw e (and_mask x k)

-- the remainder by a power of two is the last bits
pub mod-mask : (x n : ℕ) → IsTrue (is_power_of_two n) → bit_and x (n - 1) ≡ x % n
mod-mask x n t = let e : count_ones n ≡ 1 = grind (arith, nat_tests) in let k = power-of n n (omega arith) e in last-bits x k.0 n k.1
