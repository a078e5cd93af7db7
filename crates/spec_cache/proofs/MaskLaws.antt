-- What a mask made of others holds, place by place.
use Rattle.std.proofs.Common.{ℕ, ◌^◌, ◌≡◌, ◌≢◌, not, ◌&&◌, ◌||◌, inl, inr, nat_eq, refl}
use Rattle.std.proofs.Common.{sym}
use Rattle.std.specs.Int.{bit_at}
use Rattle.std.proofs.lemmas.Nat.Bits.{bit_at_and, bit_at_or, bit_at_xor, bit_at-lt, bit_at-pow_same, bit_at-pow_other}
use Rattle.std.proofs.lemmas.Bool.{cases_eq, eq-eqb, ne_eqb}
use Rattle.base_lemmas.proofs.Lemmas.{bit_join, bit_meet, bit_minus}
use Rattle.rules_maps.specs.Masks.{has, minus, meet, join}

pub has-meet : (m n k : ℕ) → has (meet m n) k ≡ (has m k && has n k)
unfolding has
has-meet m n k = rw bit_at_and (bit_meet (bit_at m k) (bit_at n k) (bit_at-lt m k) (bit_at-lt n k))

pub has-join : (m n k : ℕ) → has (join m n) k ≡ (has m k || has n k)
unfolding has
has-join m n k = rw bit_at_or (bit_join (bit_at m k) (bit_at n k) (bit_at-lt m k) (bit_at-lt n k))

pub has-minus : (m n k : ℕ) → has (minus m n) k ≡ (has m k && not (has n k))
unfolding has
has-minus m n k = rw (bit_at_xor, bit_at_and) (bit_minus (bit_at m k) (bit_at n k) (bit_at-lt m k) (bit_at-lt n k))

pub has-pow : (k j : ℕ) → has (2 ^ k) j ≡ nat_eq k j
unfolding has
has-pow k j = elim (cases_eq k j) [
  | inl e ↦ rw (eq-eqb k j e) (rw (← e) (rw bit_at-pow_same refl))
  | inr n ↦ rw (ne_eqb k j n) (let m : j ≢ k = λ e. n (sym e) in rw bit_at-pow_other refl)
]
