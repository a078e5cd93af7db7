-- The set bits of a number are those of its halves.
use Rattle.std.proofs.Common.{◌≡◌, ℕ, zero, suc, ◌+◌, ◌-◌, ◌*◌, ◌/◌, ◌%◌, ◌^◌, ◌<◌, ◌≤◌, ◌==◌, true, refl, ap, sym, ◌∙◌, arith}
use Rattle.std.specs.Int.{bit_at}
use Rattle.std.specs.Prelude.{count_ones}
use Rattle.std.proofs.lemmas.Nat.{field_of, mod-pow-add, mod_below, mod_low, ones_cat, pow_pos, shr-shr, shr_split}
use Rattle.std.proofs.lemmas.Grind.{common_steps}
use Rattle.rules_maps.specs.Masks.{has}
use Rattle.bus_tcc.proofs.Ones.{bit-ones}
use Rattle.bus_tcc.specs.Seeking.{IsAmong}
use Rattle.bus_tcc.specs.declared.seeking.Among.{Among}

pub one-shifted : (w : ℕ) → w < 64 → 1 * 2 ^ w % 18446744073709551616 ≡ 2 ^ w
one-shifted w h = grind (arith, common_steps)

mod-mod-pow : (n j k : ℕ) → n % 2 ^ (j + k) % 2 ^ k ≡ n % 2 ^ k
mod-mod-pow n j k =
    ap (λ x. x % 2 ^ k) (mod-pow-add n j k) ∙ mod_low (n / 2 ^ k % 2 ^ j) k (n % 2 ^ k) (mod_below n (2 ^ k) (pow_pos k))

-- a number's set bits are those of its high part and of its low bits
pub halves : (n w : ℕ) → count_ones n ≡ count_ones (n / 2 ^ w) + count_ones (n % 2 ^ w)
halves n w = ap count_ones (sym (shr_split n w)) ∙ ones_cat w (n / 2 ^ w) (n % 2 ^ w) (mod_below n (2 ^ w) (pow_pos w))

-- at first all bits
pub all-bits : (m k : ℕ) (a : Among) → m < 18446744073709551616 → a.at ≡ 0 → a.bits ≡ m → a.left ≡ k → k < count_ones m
    → IsAmong m k 64 a
all-bits m k a h at bits left l =
    let whole : m / 1 % 18446744073709551616 ≡ m = omega (arith, h) in
    let none : m % 1 ≡ 0 = omega arith in
    let no : count_ones 0 ≡ 0 = bit-ones 0 (omega arith) in
    record {
      bits = bits ∙ sym whole ∙ ap (λ n. m / 2 ^ n % 18446744073709551616) (sym at);
      before = omega (arith, ap (λ n. count_ones (m % 2 ^ n)) at, ap count_ones none, no, left);
      within = rw (left, bits) l;
    }

-- then the low half, or the high one
pub low-half : (m k w : ℕ) (a b : Among) → b.at ≡ a.at → b.bits ≡ a.bits % 2 ^ w → b.left ≡ a.left → b.left < count_ones b.bits
    → IsAmong m k (w + w) a → IsAmong m k w b
low-half m k w a b at bits left l h = record {
  bits = bits ∙ ap (λ n. n % 2 ^ w) h.bits ∙ mod-mod-pow (m / 2 ^ a.at) w w ∙ ap (λ n. m / 2 ^ n % 2 ^ w) (sym at);
  before = h.before ∙ (λ i. count_ones (m % 2 ^ sym at i) + sym left i);
  within = l;
}

pub high-half : (m k w ones : ℕ) (a b : Among) → ones ≡ count_ones (a.bits % 2 ^ w) → ones ≤ a.left → b.at ≡ a.at + w
    → b.bits ≡ a.bits / 2 ^ w → b.left ≡ a.left - ones → IsAmong m k (w + w) a → IsAmong m k w b
high-half m k w ones a b o l at bits left h =
    let low : a.bits % 2 ^ w ≡ m / 2 ^ a.at % 2 ^ w = ap (λ n. n % 2 ^ w) h.bits ∙ mod-mod-pow (m / 2 ^ a.at) w w in
    let high : a.bits / 2 ^ w ≡ m / 2 ^ (a.at + w) % 2 ^ w =
    ap (λ n. n / 2 ^ w) h.bits ∙ field_of (m / 2 ^ a.at) w w ∙ ap (λ n. n % 2 ^ w) (shr-shr m a.at w) in
    let turned : a.at + w ≡ w + a.at = omega arith in
    let below : count_ones (m % 2 ^ (a.at + w)) ≡ ones + count_ones (m % 2 ^ a.at) =
    ap (λ n. count_ones (m % 2 ^ n)) turned ∙ ap count_ones (mod-pow-add m w a.at)
    ∙ ones_cat a.at (m / 2 ^ a.at % 2 ^ w) (m % 2 ^ a.at) (mod_below m (2 ^ a.at) (pow_pos a.at))
    ∙ ap (λ n. n + count_ones (m % 2 ^ a.at)) (sym (o ∙ ap count_ones low)) in
    record {
      bits = bits ∙ high ∙ ap (λ n. m / 2 ^ n % 2 ^ w) (sym at);
      before = omega (arith, h.before, below, ap (λ n. count_ones (m % 2 ^ n)) at, left, l);
      within = omega (arith, h.within, halves a.bits w, o, left, l, ap count_ones bits);
    }

-- none of the high bits is set
pub low-bits : (m k : ℕ) (a : Among) → a.bits < 65536 → IsAmong m k 64 a → IsAmong m k 16 a
low-bits m k a l h =
    let few : a.bits % 65536 ≡ a.bits = omega (arith, l) in
    record {
      bits = sym few ∙ ap (λ n. n % 65536) h.bits ∙ mod-mod-pow (m / 2 ^ a.at) 48 16;
      before = h.before;
      within = h.within;
    }

-- what is sought, of which the last bit is left
pub record IsSought (m k at : ℕ) : Type 0 where
  pub set : has m at ≡ true
  pub before : count_ones (m % 2 ^ at) ≡ k

pub last-bit : (m k : ℕ) (a : Among) → IsAmong m k 1 a → IsSought m k a.at
unfolding has
last-bit m k a h =
    let q = by (bit_at m a.at) (mod_below (m / 2 ^ a.at) 2 (omega arith)) a.left (rw (← h.bits) h.within) in
    record { set = q.0; before = omega (arith, h.before, q.1) }
  where
    by : (d : ℕ) → d < 2 → (left : ℕ) → left < count_ones d → (1 == d ≡ true) × (left ≡ 0)
    by zero h left l = absurd (omega (arith, l, bit-ones 0 h))
    by (suc zero) h left l = (refl, omega (arith, l, bit-ones 1 h))
    by (suc (suc d)) h left l = absurd (omega (arith, h))
