-- Sets of directories, place by place.
use Rattle.std.proofs.Common.{ℕ, ◌-◌, ◌/◌, ◌^◌, ◌<◌, ◌≤◌, ◌≡◌, Bool, true, false, not, ◌&&◌, ◌||◌, inl, inr}
use Rattle.std.proofs.Common.{nat_eq, nat_lt, ltb, if◌then◌else◌, refl, sym, ap, ◌∙◌, arith}
use Rattle.std.specs.Int.{bit_at}
use Rattle.std.specs.Int.RustNames.{bit_or, bit_xor}
use lib.Bits.{bit_and}
use Rattle.std.proofs.lemmas.Nat.Bits.{bit_at_and, bit_at_or, bit_at_xor, bit_at-lt, bit_at-pow_same, bit_at-pow_other, bit_at-zero}
use Rattle.std.proofs.lemmas.Nat.Bits.{bit_at_ones, bit_at_ones_above, same_from_bits, shr_and_one}
use Rattle.std.proofs.lemmas.Bool.{cases_eq, eq-eqb, ne_eqb, false≢true}
use Rattle.std.proofs.lemmas.Bool.Decides.{nat_tests}
use Rattle.tcc_base.specs.Put.{put}
use Rattle.base_lemmas.proofs.Lemmas.{and-false, and-true, any_below-found, bit_join, bit_meet, bit_minus, has-zero, none_below, or-false}
use Rattle.base_lemmas.proofs.Lemmas.{or-true}
use Rattle.rules_maps.specs.Masks.{has}
use Rattle.rules_maps.specs.Words.{any_below}

pub has-or : (m n k : ℕ) → has (bit_or m n) k ≡ (has m k || has n k)
unfolding has
has-or m n k = rw bit_at_or (bit_join (bit_at m k) (bit_at n k) (bit_at-lt m k) (bit_at-lt n k))

pub has-and : (m n k : ℕ) → has (bit_and m n) k ≡ (has m k && has n k)
unfolding has
has-and m n k = rw bit_at_and (bit_meet (bit_at m k) (bit_at n k) (bit_at-lt m k) (bit_at-lt n k))

pub has-pow : (k j : ℕ) → has (2 ^ k) j ≡ nat_eq j k
unfolding has
has-pow k j = elim (cases_eq j k) [
  | inl e ↦ rw (eq-eqb j k e) (rw e (rw bit_at-pow_same refl))
  | inr n ↦ rw (ne_eqb j k n) (rw bit_at-pow_other refl)
]

-- the numbers below n
pub has-below : (n k : ℕ) → has (2 ^ n - 1) k ≡ nat_lt k n
unfolding has
has-below n k = below (ltb k n) refl
  where
    below : (b : Bool) → ltb k n ≡ b → nat_eq 1 (bit_at (2 ^ n - 1) k) ≡ nat_lt k n
    below true e = (let h : k < n = grind (arith, nat_tests) in rw (bit_at_ones n k h) (sym e))
    below false e = (let h : n ≤ k = grind (arith, nat_tests) in rw (bit_at_ones_above n k h) (sym e))

-- a set with one more member, and without one
pub has-with : (m d j : ℕ) → has (bit_or m (2 ^ d)) j ≡ put (has m) d true j
has-with m d j = rw (has-or m (2 ^ d) j, has-pow d j) (at_test (nat_eq j d))
  where
    at_test : (b : Bool) → (has m j || b) ≡ (if b then true else has m j)
    at_test true = or-true (has m j)
    at_test false = or-false (has m j)

pub has-minus : (m n k : ℕ) → has (bit_xor m (bit_and m n)) k ≡ (has m k && not (has n k))
unfolding has
has-minus m n k = rw (bit_at_xor, bit_at_and) (bit_minus (bit_at m k) (bit_at n k) (bit_at-lt m k) (bit_at-lt n k))

pub has-without : (m d j : ℕ) → has (bit_xor m (bit_and m (2 ^ d))) j ≡ put (has m) d false j
has-without m d j = rw (has-minus m (2 ^ d) j, has-pow d j) (at_test (nat_eq j d))
  where
    at_test : (b : Bool) → (has m j && not b) ≡ (if b then false else has m j)
    at_test true = and-false (has m j)
    at_test false = and-true (has m j)

-- the test of one bit, as the code makes it
pub bit_test : (m d : ℕ) → nat_eq (bit_and (m / 2 ^ d) 1) 1 ≡ has m d
unfolding has
bit_test m d = rw (shr_and_one m d) (turned (bit_at m d) (bit_at-lt m d))
  where
    turned : (b : ℕ) → b < 2 → nat_eq b 1 ≡ nat_eq 1 b
    turned b h = grind (arith, nat_tests)

no_bits : (b : ℕ) → ((k : ℕ) → has b k ≡ false) → b ≡ 0
unfolding has
no_bits b h = same_from_bits b 0 (λ i. rw bit_at-zero (low (bit_at b i) (bit_at-lt b i) (h i)))
  where
    low : (x : ℕ) → x < 2 → nat_eq 1 x ≡ false → x ≡ 0
    low x p q = grind (arith, nat_tests)

-- a set's part below n is empty exactly where no member is below n
pub empty_below : (s b n : ℕ) → ((k : ℕ) → has b k ≡ (has s k && nat_lt k n)) → nat_eq b 0 ≡ not (any_below (has s) n)
empty_below s b n h = by_test (any_below (has s) n) refl
  where
    out : (t : Bool) → (k : ℕ) → nat_lt k n ≡ t → any_below (has s) n ≡ false → (has s k && t) ≡ false
    out true k e f = (let p : k < n = grind (arith, nat_tests) in rw (none_below (has s) n k f p) refl)
    out false k e f = and-false (has s k)

    by_test : (t : Bool) → any_below (has s) n ≡ t → nat_eq b 0 ≡ not t
    by_test false e = (let z : b ≡ 0 = no_bits b (λ k. h k ∙ out (nat_lt k n) k refl e) in rw z refl)
    by_test true e = (
        let w : (k : ℕ) × (k < n) × (has s k ≡ true) = any_below-found (has s) n e in
        let l : nat_lt w.0 n ≡ true = (let p : w.0 < n = w.1 in grind (arith, nat_tests)) in
        let t : has b w.0 ≡ true = h w.0 ∙ rw (w.2, l) refl in
        ne_eqb b 0 (λ z. false≢true (sym (has-zero w.0) ∙ (ap (λ (x : ℕ). has x w.0) (sym z) ∙ t))))
