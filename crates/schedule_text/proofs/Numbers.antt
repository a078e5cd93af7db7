-- Numbers: what is read is written so, and what is written so is read.
use Rattle.std.proofs.Common.{◌≡◌, ℕ, zero, suc, ◌+◌, ◌-◌, ◌*◌, ◌/◌, ◌%◌, ◌^◌, ◌<◌, ◌≤◌, List, [], ◌∷◌, ◌++◌, length, get_or, drop, Some}
use Rattle.std.proofs.Common.{None, cond, eqb, leb, ltb, ◌&&◌, refl, sym, ap, subst, ◌∙◌, inl, inr, append_assoc, arith}
use Rattle.std.specs.Fmt.{decimal}
use Rattle.std.proofs.lemmas.Bool.{eqb-true, eq-eqb, ne_eqb, leb-true, ltb-true, le-leb, lt-ltb, and_parts}
use Rattle.std.proofs.lemmas.Fmt.{decimal_digit, decimal_step, decimal_by_steps}
use Rattle.std.proofs.lemmas.List.{drop_more, drop_all}
use Rattle.std.proofs.lemmas.Option.{some_pair_parts, same_Some}
use Rattle.schedule_text.specs.Reading.{◌>>=◌, word_at, more_at, digits_at, number_at, below_at, field_at}
use Rattle.schedule_text.proofs.Words.{bind_some, chosen, kept, word_takes, word_again}

-- ---- one more digit

more_takes : (n byte m : ℕ) → more_at n byte ≡ Some m → (48 ≤ byte) × (byte ≤ 57) × (m ≡ 10 * n + (byte - 48)) × (m < 2 ^ 62)
unfolding more_at
more_takes n byte m e =
    let k = kept (leb 48 byte && leb byte 57 && ltb (10 * n + (byte - 48)) (2 ^ 62)) (Some (10 * n + (byte - 48))) m e in
    let p = and_parts (leb 48 byte && leb byte 57) (ltb (10 * n + (byte - 48)) (2 ^ 62)) k.0 in
    let q = and_parts (leb 48 byte) (leb byte 57) p.0 in
    let same : 10 * n + (byte - 48) ≡ m = same_Some (10 * n + (byte - 48)) m k.1 in
    let small = ltb-true (10 * n + (byte - 48)) (2 ^ 62) p.1 in
    (leb-true 48 byte q.0, leb-true byte 57 q.1, sym same, omega arith)

more_again : (n d : ℕ) → d < 10 → 10 * n + d < 2 ^ 62 → more_at n (48 + d) ≡ Some (10 * n + d)
unfolding more_at
more_again n d digit small =
    let back : 48 + d - 48 ≡ d = omega arith in
    rw (le-leb 48 (48 + d) (omega arith), le-leb (48 + d) 57 (omega arith), back, lt-ltb (10 * n + d) (2 ^ 62) small) refl

-- ---- the loop over the digits

pub digits_stop : (end n i : ℕ) (bytes : List ℕ) → i < length bytes → get_or bytes i 0 ≡ end
    → digits_at end n (drop i bytes) ≡ Some (n, drop (i + 1) bytes)
unfolding digits_at
digits_stop end n i bytes within stop = rw (drop_more bytes i 0 within, stop, eq-eqb end end refl) refl

pub digits_step : (end n m i : ℕ) (bytes : List ℕ) → i < length bytes → (get_or bytes i 0 ≡ end → ⊥) → Some m ≡ more_at n (get_or bytes i 0)
    → digits_at end n (drop i bytes) ≡ digits_at end m (drop (i + 1) bytes)
unfolding digits_at
digits_step end n m i bytes within on more =
    rw (drop_more bytes i 0 within, ne_eqb (get_or bytes i 0) end on, ← more) refl

pub digits_fail : (end n i : ℕ) (bytes : List ℕ) → i < length bytes → (get_or bytes i 0 ≡ end → ⊥) → None ≡ more_at n (get_or bytes i 0)
    → digits_at end n (drop i bytes) ≡ None
unfolding digits_at
digits_fail end n i bytes within on more =
    rw (drop_more bytes i 0 within, ne_eqb (get_or bytes i 0) end on, ← more) refl

pub digits_end : (end n i : ℕ) (bytes : List ℕ) → length bytes ≤ i → digits_at end n (drop i bytes) ≡ None
unfolding digits_at
digits_end end n i bytes past = rw (drop_all i bytes past) refl

-- ---- what is read is written so

-- a number and the byte after it stand in front
pub record Takes (end : ℕ) (bytes : List ℕ) (n : ℕ) (rest : List ℕ) : Type 0 where
  pub parts : bytes ≡ decimal n ++ end ∷ rest
  pub small : n < 2 ^ 62

longer : (n byte : ℕ) → 0 < n → n < 2 ^ 62 → 48 ≤ byte → byte ≤ 57 → 10 * n + (byte - 48) < 2 ^ 62
    → decimal (10 * n + (byte - 48)) ≡ decimal n ++ byte ∷ []
longer n byte pos small low high fits =
    let m : ℕ = 10 * n + (byte - 48) in
    let front : m / 10 ≡ n = omega arith in
    let last : 48 + m % 10 ≡ byte = omega arith in
    decimal_step m (omega arith) (omega arith) ∙ rw (front, last) refl

digits_take : (end n : ℕ) (bytes : List ℕ) (m : ℕ) (rest : List ℕ) → 0 < n → n < 2 ^ 62 → digits_at end n bytes ≡ Some (m, rest)
    → Takes end (decimal n ++ bytes) m rest
unfolding digits_at
digits_take end n [] m rest pos small e = absurd cc
digits_take end n (byte ∷ bytes) m rest pos small e =
    elim (chosen (eqb byte end) (Some (n, bytes)) (more_at n byte >>= λ k. digits_at end k bytes) (Some (m, rest)) e) [
      | inl h ↦
          let stop : byte ≡ end = eqb-true byte end h.0 in
          let same = some_pair_parts n m bytes rest h.1 in
          let number : n ≡ m = same.0 in
          let others : bytes ≡ rest = same.1 in
          record { parts = cc; small = omega arith }
      | inr h ↦
          let b = bind_some (more_at n byte) (λ k. digits_at end k bytes) (m, rest) h.1 in
          let t = more_takes n byte b.0 b.1 in
          let again = digits_take end b.0 bytes m rest (omega (arith, t.2)) (omega (arith, t.3)) b.2 in
          let whole : decimal b.0 ≡ decimal n ++ byte ∷ [] = rw t.2 (longer n byte pos small t.0 t.1 (omega (arith, t.2, t.3))) in
          let grouped : decimal n ++ byte ∷ bytes ≡ decimal b.0 ++ bytes = rw (whole, append_assoc) refl in
          record { parts = grouped ∙ again.parts; small = again.small }
    ]

pub number_takes : (end : ℕ) (bytes : List ℕ) (n : ℕ) (rest : List ℕ) → number_at end bytes ≡ Some (n, rest) → Takes end bytes n rest
unfolding number_at
number_takes end [] n rest e = absurd cc
number_takes end (byte ∷ bytes) n rest e =
    elim (chosen (eqb byte 48) (word_at (end ∷ []) bytes >>= λ r. Some (0, r))
    (cond (leb 49 byte && leb byte 57) (digits_at end (byte - 48) bytes) None) (Some (n, rest)) e) [
      | inl h ↦
          let b = bind_some (word_at (end ∷ []) bytes) (λ r. Some (0, r)) (n, rest) h.1 in
          let same = some_pair_parts 0 n b.0 rest b.2 in
          let zero-is : 0 ≡ n = same.0 in
          let front : byte ≡ 48 = eqb-true byte 48 h.0 in
          let after : bytes ≡ (end ∷ []) ++ b.0 = word_takes (end ∷ []) bytes b.0 b.1 in
          let written : decimal 0 ≡ 48 ∷ [] = decimal_digit 0 (omega arith) in
          let tail : bytes ≡ end ∷ rest = after ∙ ap (λ (r : List ℕ). end ∷ r) same.1 in
          let plain : byte ∷ bytes ≡ 48 ∷ end ∷ rest = cc in
          let read : byte ∷ bytes ≡ decimal 0 ++ end ∷ rest = rw written plain in
          record { parts = rw (← zero-is) read; small = omega arith }
      | inr h ↦
          let k = kept (leb 49 byte && leb byte 57) (digits_at end (byte - 48) bytes) (n, rest) h.1 in
          let q = and_parts (leb 49 byte) (leb byte 57) k.0 in
          let low = leb-true 49 byte q.0 in
          let high = leb-true byte 57 q.1 in
          let t = digits_take end (byte - 48) bytes n rest (omega arith) (omega arith) k.1 in
          let one : decimal (byte - 48) ≡ (48 + (byte - 48)) ∷ [] = decimal_digit (byte - 48) (omega arith) in
          let back : 48 + (byte - 48) ≡ byte = omega arith in
          let first : decimal (byte - 48) ≡ byte ∷ [] = one ∙ rw back refl in
          record { parts = rw (← t.parts, first) refl; small = t.small }
    ]

-- ---- what is written so is read

-- the digits of a number that isn't 0 lead to the number
abbrev LeadsTo : (end n : ℕ) → List ℕ → Type 0
LeadsTo end n digits = 0 < n → n < 2 ^ 62 → (rest : List ℕ) → number_at end (digits ++ rest) ≡ digits_at end n rest

leads_one : (end n : ℕ) → n < 10 → LeadsTo end n ((48 + n) ∷ [])
unfolding number_at
leads_one end n digit pos small rest =
    let back : 48 + n - 48 ≡ n = omega arith in
    rw (ne_eqb (48 + n) 48 (λ e. omega arith), le-leb 49 (48 + n) (omega arith), le-leb (48 + n) 57 (omega arith), back) refl

leads_more : (end n : ℕ) (digits : List ℕ) → end < 48 → 10 ≤ n → LeadsTo end (n / 10) digits → LeadsTo end n (digits ++ (48 + n % 10) ∷ [])
unfolding digits_at
leads_more end n digits apart long before pos small rest =
    let d : ℕ = n % 10 in
    let whole : 10 * (n / 10) + n % 10 ≡ n = omega arith in
    let step : digits_at end (n / 10) ((48 + n % 10) ∷ rest) ≡ digits_at end (10 * (n / 10) + n % 10) rest =
    rw (ne_eqb (48 + n % 10) end (λ e. omega arith), more_again (n / 10) (n % 10) (omega arith) (omega arith)) refl in
    let front : number_at end (digits ++ (48 + n % 10) ∷ rest) ≡ digits_at end (n / 10) ((48 + n % 10) ∷ rest) =
    before (omega arith) (omega arith) ((48 + n % 10) ∷ rest) in
    ap (number_at end) (append_assoc digits ((48 + n % 10) ∷ []) rest) ∙ front ∙ step ∙ rw whole refl

leads : (end n : ℕ) → end < 48 → n < 2 ^ 62 → LeadsTo end n (decimal n)
leads end n apart small =
    decimal_by_steps (LeadsTo end) (leads_one end) (λ m digits. leads_more end m digits apart) n (omega arith)

pub number_again : (end n : ℕ) (rest : List ℕ) → end < 48 → n < 2 ^ 62 → number_at end (decimal n ++ end ∷ rest) ≡ Some (n, rest)
unfolding number_at digits_at
number_again end zero rest apart small =
    rw (decimal_digit 0 (omega arith), word_again (end ∷ []) rest) refl
number_again end (suc n) rest apart small =
    leads end (suc n) apart small (omega arith) small (end ∷ rest) ∙ rw (eq-eqb end end refl) refl

-- ---- numbers below a limit, and behind a word

pub below_takes : (end limit : ℕ) (bytes : List ℕ) (n : ℕ) (rest : List ℕ) → below_at end limit bytes ≡ Some (n, rest)
    → Takes end bytes n rest × (n < limit)
unfolding below_at
below_takes end limit bytes n rest e =
    let b = bind_some (number_at end bytes) (λ x. cond (ltb x.0 limit) (Some x) None) (n, rest) e in
    let k = kept (ltb b.0.0 limit) (Some b.0) (n, rest) b.2 in
    let t = number_takes end bytes b.0.0 b.0.1 b.1 in
    let low = ltb-true b.0.0 limit k.0 in
    subst (λ (x : ℕ × List ℕ). Takes end bytes x.0 x.1 × (x.0 < limit)) (same_Some b.0 (n, rest) k.1) (t, low)

pub below_again : (end limit n : ℕ) (rest : List ℕ) → end < 48 → n < 2 ^ 62 → n < limit
    → below_at end limit (decimal n ++ end ∷ rest) ≡ Some (n, rest)
unfolding below_at
below_again end limit n rest apart small low = rw (number_again end n rest apart small, lt-ltb n limit low) refl

pub field_takes : (word : List ℕ) (end : ℕ) (bytes : List ℕ) (n : ℕ) (rest : List ℕ) → field_at word end bytes ≡ Some (n, rest)
    → (bytes ≡ word ++ (decimal n ++ end ∷ rest)) × (n < 2 ^ 62)
unfolding field_at
field_takes word end bytes n rest e =
    let b = bind_some (word_at word bytes) (λ r. number_at end r) (n, rest) e in
    let t = number_takes end b.0 n rest b.2 in
    (word_takes word bytes b.0 b.1 ∙ ap (λ (r : List ℕ). word ++ r) t.parts, t.small)

pub field_again : (word : List ℕ) (end n : ℕ) (rest : List ℕ) → end < 48 → n < 2 ^ 62
    → field_at word end (word ++ (decimal n ++ end ∷ rest)) ≡ Some (n, rest)
unfolding field_at
field_again word end n rest apart small = rw (word_again word (decimal n ++ end ∷ rest)) (number_again end n rest apart small)
