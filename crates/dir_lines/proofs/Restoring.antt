-- A record in the place of a line's, whether the cores of a set are few, and what is known of lines of other homes.
use Rattle.std.proofs.Common.{◌≡◌, ℕ, suc, zero, ◌+◌, ◌*◌, ◌/◌, ◌%◌, ◌^◌, ◌<◌, ◌≤◌, Bool, true, false, ◌==◌, option_map}
use Rattle.std.proofs.Common.{◌⊎◌, inl, inr, refl, ap, sym, ◌∙◌, arith}
use Rattle.std.proofs.Math.Nat.{mod-add-div'}
use Rattle.std.proofs.lemmas.Bool.{false≢true, cases_lt}
use Rattle.std.proofs.lemmas.Nat.{shr-shr, mod_below, pow_pos}
use Rattle.std.proofs.lemmas.Nat.Bits.{bit_at-lt, bit_at-zero, bit_at_above, same_from_bits}
use Rattle.std.specs.Int.{bit_at}
use Rattle.rules_maps.specs.Masks.{has}
use Rattle.rules_maps.specs.Words.{put}
use Rattle.rules_maps.proofs.Lemmas.{has-zero}
use Rattle.dir_lines.specs.Home.{IsAtHome}
use Rattle.dir_lines.specs.Kept.{kept}
use Rattle.dir_lines.specs.Pages.{Pages, pages_at, is_at_home}
use Rattle.dir_lines.specs.Record.{Record, blank, lines_of}
use Rattle.dir_lines.specs.Restored.{IsUnknown, with_record}
use Rattle.dir_lines.proofs.Changes.{new-field}
use Rattle.dir_lines.proofs.PagesAt.{is_at_home-only}

-- all fields of the record change
pub lines_of-with_record : (f : ℕ → Record) (l : ℕ) (r : Record) → lines_of (put f l r) ≡ with_record l r (lines_of f)
unfolding lines_of with_record
lines_of-with_record f l r = λ i. record {
  sharers = λ j. new-field (λ s. has s.sharers.0) f l r j (has r.sharers.0) refl i;
  owner = λ j. new-field (λ s. option_map (λ c. c.0) s.owner) f l r j (option_map (λ c. c.0) r.owner) refl i;
  tag = λ j. new-field (λ s. s.tag.0) f l r j r.tag.0 refl i;
  asked = λ j. new-field (λ s. s.asked) f l r j r.asked refl i;
  mark = λ j. new-field (λ s. s.mark.0) f l r j r.mark.0 refl i;
}

-- a number below 2 ^ n has no bit from n on, and one that has none is below it
pub has-below : (m n c : ℕ) → m < 2 ^ n → has m c ≡ true → c < n
unfolding has
has-below m n c lt e = by (cases_lt c n)
  where
    by : (c < n) ⊎ (n ≤ c) → c < n
    by (inl h) = h
    by (inr h) = absurd (false≢true (ap (λ b. 1 == b) (sym (bit_at_above m n c lt h)) ∙ e))

pub small-shifted : (m n : ℕ) → m / 2 ^ n ≡ 0 → m < 2 ^ n
small-shifted m n e =
    let rest : m % 2 ^ n + m / 2 ^ n * 2 ^ n ≡ m = mod-add-div' m (2 ^ n) in
    let zero_of : 0 * 2 ^ n ≡ 0 = omega arith in
    let none : m / 2 ^ n * 2 ^ n ≡ 0 = ap (λ q. q * 2 ^ n) e ∙ zero_of in
    let lt : m % 2 ^ n < 2 ^ n = mod_below m (2 ^ n) (pow_pos n) in
    omega (arith, rest, none, lt)

no-bit : (m c : ℕ) → (has m c ≡ true → ⊥) → bit_at m c ≡ 0
unfolding has
no-bit m c none = by (bit_at m c) refl (bit_at-lt m c)
  where
    by : (b : ℕ) → bit_at m c ≡ b → b < 2 → bit_at m c ≡ 0
    by zero e lt = e
    by (suc zero) e lt = absurd (none (ap (λ b. 1 == b) e))
    by (suc (suc b)) e lt = absurd (omega arith)

pub shifted-small : (m n : ℕ) → ((c : ℕ) → has m c ≡ true → c < n) → m / 2 ^ n ≡ 0
shifted-small m n few = same_from_bits (m / 2 ^ n) 0 (λ i. at i)
  where
    at : (i : ℕ) → bit_at (m / 2 ^ n) i ≡ bit_at 0 i
    at i = ap (λ q. q % 2) (shr-shr m n i) ∙ (no-bit m (n + i) (λ e. absurd (omega (arith, few (n + i) e))) ∙ sym (bit_at-zero i))

-- nothing is known of a line of another home
pages_at-elsewhere : (p : Pages) (l : ℕ) → is_at_home p.place l ≡ false → pages_at p l ≡ blank
unfolding pages_at
pages_at-elsewhere p l e = rw e refl

pub kept-elsewhere : (p : Pages) (l : ℕ) → (IsAtHome p.place l → ⊥) → IsUnknown (kept p) l
unfolding kept lines_of
kept-elsewhere p l away = by (is_at_home p.place l) refl
  where
    by : (b : Bool) → is_at_home p.place l ≡ b → IsUnknown (kept p) l
    by true e = absurd (away (is_at_home-only p.place l e))
    by false e =
        let b : pages_at p l ≡ blank = pages_at-elsewhere p l e in
        record {
          sharers = λ c. ap (λ r. has r.sharers.0 c) b ∙ has-zero c;
          owner = ap (λ r. option_map (λ c. c.0) r.owner) b;
          tag = ap (λ r. r.tag.0) b;
          asked = ap (λ r. r.asked) b;
          mark = ap (λ r. r.mark.0) b;
        }
