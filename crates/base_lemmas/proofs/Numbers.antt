-- Numbers, and their tests.
use Rattle.std.proofs.Common.{Bool, arith, cond, false, inl, inr, max, min, nat_eq, nat_le, not, refl, suc, sym, true, ℕ, ◌%◌, ◌&&◌, ◌+◌}
use Rattle.std.proofs.Common.{◌-◌, ◌<◌, ◌==◌, ◌||◌, ◌≡◌, ◌≤◌}
use Rattle.std.proofs.lemmas.Bool.{cases_eq, eq-eqb, ne_eqb}
use Rattle.std.proofs.lemmas.Bool.Decides.{nat_tests}
use Rattle.std.proofs.lemmas.Nat.{ones_le_self}
use Rattle.std.specs.Int.{is_power_of_two}
use Rattle.std.specs.Int.RustNames.{count_ones}
use Rattle.std.specs.Prelude.{IsTrue, nat_lt}

pub lt-from : (a b : ℕ) → nat_lt a b ≡ true → a < b
lt-from a b e = grind (arith, nat_tests)

pub eq-true : (a b : ℕ) → a ≡ b → (a == b) ≡ true
eq-true a b q = grind (arith, nat_tests)

pub eq-from : (x y : ℕ) → (x == y) ≡ true → x ≡ y
eq-from x y e = grind (arith, nat_tests)

pub eq-self : (x : ℕ) → (x == x) ≡ true
eq-self x = grind (arith, nat_tests)

pub le-true : (from number : ℕ) → from ≤ number → nat_le from number ≡ true
le-true from number h = grind (arith, nat_tests)

pub le-false : (from number : ℕ) → number < from → nat_le from number ≡ false
le-false from number h = grind (arith, nat_tests)

pub lt_self : (t : ℕ) → nat_lt t t ≡ false
lt_self t = grind (arith, nat_tests)

pub nat_eq-comm : (a b : ℕ) → nat_eq a b ≡ nat_eq b a
nat_eq-comm a b = elim (cases_eq a b) [
  | inl e ↦ rw (eq-eqb a b e, eq-eqb b a (sym e)) refl
  | inr n ↦ rw (ne_eqb a b n, ne_eqb b a (λ e. n (sym e))) refl
]

pub fewer : (all i : ℕ) → i < all → all - i ≡ suc (all - (i + 1))
fewer all i h = omega (arith, h)

pub next-number : (k : ℕ) → k + 1 ≡ suc k
next-number k = omega arith

pub power-positive : (n : ℕ) → IsTrue (is_power_of_two n) → 1 ≤ n
power-positive n h = let e : count_ones n ≡ 1 = grind (arith, nat_tests) in omega (arith, ones_le_self n)

pub one_more : (a : ℕ) (b : Bool) → (not (nat_eq a 0) || b) ≡ not (nat_eq (a + cond b 1 0) 0)
one_more a true = grind (arith, nat_tests)
one_more a false = grind (arith, nat_tests)

pub bit_minus : (a b : ℕ) → a < 2 → b < 2 → nat_eq 1 ((a + min a b) % 2) ≡ (nat_eq 1 a && not (nat_eq 1 b))
bit_minus a b p q = grind (arith, nat_tests)

pub bit_join : (a b : ℕ) → a < 2 → b < 2 → nat_eq 1 (max a b) ≡ (nat_eq 1 a || nat_eq 1 b)
bit_join a b p q = grind (arith, nat_tests)

pub bit_meet : (a b : ℕ) → a < 2 → b < 2 → nat_eq 1 (min a b) ≡ (nat_eq 1 a && nat_eq 1 b)
bit_meet a b p q = grind (arith, nat_tests)
