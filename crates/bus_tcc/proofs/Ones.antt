-- How many of a mask's lowest bits are set.
use Rattle.std.proofs.Common.{◌≡◌, ℕ, zero, suc, ◌+◌, ◌/◌, ◌%◌, ◌^◌, ◌<◌, ◌==◌, Bool, true, false, if◌then◌else◌, length}
use Rattle.std.proofs.Common.{refl, ap, ap₂, ◌∙◌, arith}
use Rattle.std.specs.List.{filter}
use Rattle.std.specs.Int.{bit_at}
use Rattle.std.specs.Prelude.{count_ones}
use Rattle.std.proofs.lemmas.Nat.{mod-pow-add, mod_below, ones_cat, pow_pos}
use Rattle.rules_maps.specs.Masks.{has}
use Rattle.rules_maps.specs.Words.{num}
use Rattle.rules_tcc.specs.Seen.{numbers}
use Rattle.bus_tcc.proofs.Numbers.{count-more, none-counted}

pub bit-ones : (d : ℕ) → d < 2 → count_ones d ≡ num (1 == d)
unfolding lib.Count.ones
bit-ones zero h = refl
bit-ones (suc zero) h = refl
bit-ones (suc (suc d)) h = absurd (omega (arith, h))

bit : (m n : ℕ) → count_ones (bit_at m n) ≡ num (has m n)
unfolding has
bit m n = bit-ones (bit_at m n) (mod_below (m / 2 ^ n) 2 (omega arith))

no-ones : (m : ℕ) → count_ones (m % 1) ≡ 0
unfolding lib.Count.ones
no-ones m =
    let none : m % 1 ≡ 0 = omega arith in
    ap count_ones none

pub ones-below : (m n : ℕ) → count_ones (m % 2 ^ n) ≡ length (filter (has m) (numbers n))
ones-below m zero = no-ones m ∙ none-counted (has m)
ones-below m (suc n) =
    let next : suc n ≡ 1 + n = omega arith in
    let more : n + 1 ≡ suc n = omega arith in
    ap (λ x. count_ones (m % 2 ^ x)) next
    ∙ ap count_ones (mod-pow-add m 1 n)
    ∙ ones_cat n (bit_at m n) (m % 2 ^ n) (mod_below m (2 ^ n) (pow_pos n))
    ∙ ap₂ (λ x y. x + y) (bit m n) (ones-below m n)
    ∙ joined (has m n)
    ∙ count-more (has m) n (has m n) (length (filter (has m) (numbers n))) refl refl
    ∙ ap (λ k. length (filter (has m) (numbers k))) more
  where
    joined : (b : Bool) → num b + length (filter (has m) (numbers n))
        ≡ (if b then length (filter (has m) (numbers n)) + 1 else length (filter (has m) (numbers n)))
    joined true = omega arith
    joined false = omega arith
