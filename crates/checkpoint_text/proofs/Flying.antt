-- The rows of the messages in flight on a link, by the numbers of those that wait there.
use Rattle.std.proofs.Common.{ℕ, zero, suc, ◌≡◌, ◌+◌, ◌∙◌, Bool, true, false, cond, List, [], ◌∷◌, ◌++◌, Option, Some, None, map, length}
use Rattle.std.proofs.Common.{slice_index_or, refl, sym, ap, arith, append-nil, append_assoc}
use Rattle.std.proofs.Common.{◌≤◌, drop, slice_get}
use Rattle.std.proofs.lemmas.Option.{get_or_from_slice_get, slice_get_within}
use Rattle.base_lemmas.proofs.Lemmas.{map-map}
use Rattle.rules_maps.specs.Words.{those}
use Rattle.machine_links.specs.Lane.{Lane, is_waiting, numbers_of}
use Rattle.machine_links.specs.declared.lane.Held.{Held}
use Rattle.row_text.specs.Rows.{row_text}
use Rattle.checkpoint_text.specs.Messages.{flying_rows, message_numbers}
use Rattle.checkpoint_text.specs.Written.{table_text}
use Rattle.checkpoint_text.proofs.Written.{entries-end, entries-more}

-- ---- the first of some numbers, and the others

with-last : (xs : List ℕ) (b : Bool) (n : ℕ) → map (λ k. suc k) (xs ++ cond b (n ∷ []) []) ≡ map (λ k. suc k) xs ++ cond b (suc n ∷ []) []
with-last [] true n = refl
with-last [] false n = refl
with-last (x ∷ xs) b n = ap (λ ys. suc x ∷ ys) (with-last xs b n)

those-first : (p : ℕ → Bool) (n : ℕ) → those p (suc n) ≡ cond (p 0) (0 ∷ []) [] ++ map (λ k. suc k) (those (λ k. p (suc k)) n)
unfolding those
those-first p zero = sym (append-nil (cond (p 0) (0 ∷ []) []))
those-first p (suc n) =
    ap (λ ks. ks ++ cond (p (suc n)) (suc n ∷ []) []) (those-first p n)
    ∙ append_assoc (cond (p 0) (0 ∷ []) []) (map (λ k. suc k) (those (λ k. p (suc k)) n)) (cond (p (suc n)) (suc n ∷ []) [])
    ∙ ap (λ ks. cond (p 0) (0 ∷ []) [] ++ ks) (sym (with-last (those (λ k. p (suc k)) n) (p (suc n)) n))

-- ---- the rows

-- the numbers of a message, where it is in flight
abbrev pub held_numbers : Option Held → List ℕ
held_numbers None = []
held_numbers (Some h) = message_numbers h.msg

-- the row of the message of this number, where it is in flight on the link
abbrev pub flying_row : Lane → (seq : ℕ) → List ℕ
flying_row lane s = s ∷ held_numbers (slice_index_or lane s None)

-- the same, where the link's first number is k
abbrev row_from : (k : ℕ) → Lane → (s : ℕ) → List ℕ
row_from k lane s = (k + s) ∷ held_numbers (slice_index_or lane s None)

row-next : (k : ℕ) (h : Option Held) (lane : Lane) (s : ℕ) → row_from (k + 1) lane s ≡ row_from k (h ∷ lane) (suc s)
row-next k h lane s =
    let e : (k + 1) + s ≡ k + suc s = omega arith in
    λ i. e i ∷ held_numbers (slice_index_or lane s None)

rows-next : (k : ℕ) (h : Option Held) (lane : Lane) (ks : List ℕ)
    → map (row_from (k + 1) lane) ks ≡ map (row_from k (h ∷ lane)) (map (λ s. suc s) ks)
rows-next k h lane [] = refl
rows-next k h lane (s ∷ ks) = λ i. row-next k h lane s i ∷ rows-next k h lane ks i

flying-from : (k : ℕ) (lane : Lane) → flying_rows k lane ≡ map (row_from k lane) (numbers_of is_waiting lane)
unfolding flying_rows numbers_of is_waiting those
flying-from k [] = refl
flying-from k (None ∷ lane) =
    flying-from (k + 1) lane ∙ rows-next k None lane (numbers_of is_waiting lane)
    ∙ ap (map (row_from k (None ∷ lane))) (sym (those-first (λ s. is_waiting (slice_index_or (None ∷ lane) s None)) (length lane)))
flying-from k (Some h ∷ lane) =
    let same : k ≡ k + 0 = omega arith in
    let first : (k ∷ message_numbers h.msg) ≡ row_from k (Some h ∷ lane) 0 = λ i. same i ∷ message_numbers h.msg in
    (λ i. first i ∷ (flying-from (k + 1) lane ∙ rows-next k (Some h) lane (numbers_of is_waiting lane)) i)
    ∙ ap (map (row_from k (Some h ∷ lane))) (sym (those-first (λ s. is_waiting (slice_index_or (Some h ∷ lane) s None)) (length lane)))

rows-start : (lane : Lane) (ks : List ℕ) → map (row_from 0 lane) ks ≡ map (flying_row lane) ks
rows-start lane [] = refl
rows-start lane (s ∷ ks) =
    let e : 0 + s ≡ s = omega arith in
    λ i. (e i ∷ held_numbers (slice_index_or lane s None)) ∷ rows-start lane ks i

-- those of a link
pub flying-waiting : (lane : Lane) → flying_rows 0 lane ≡ map (flying_row lane) (numbers_of is_waiting lane)
flying-waiting lane = flying-from 0 lane ∙ rows-start lane (numbers_of is_waiting lane)

-- ---- the rows that are written

abbrev waiting_text : (w : List ℕ) (k : ℕ) (lane : Lane) → List ℕ → List ℕ
waiting_text w k lane ks = table_text w (map (λ s. k ∷ flying_row lane s) ks)

-- one more message is written
pub flying-more : (w : List ℕ) (k : ℕ) (lane : Lane) (i s : ℕ) (h : Held) (text new whole : List ℕ)
    → Some s ≡ slice_get (numbers_of is_waiting lane) i → slice_index_or lane s None ≡ Some h
    → text ++ waiting_text w k lane (drop i (numbers_of is_waiting lane)) ≡ whole
    → new ≡ text ++ row_text (record { word = w; numbers = k ∷ s ∷ message_numbers h.msg })
    → new ++ waiting_text w k lane (drop (i + 1) (numbers_of is_waiting lane)) ≡ whole
flying-more w k lane i s h text new whole there held before e =
    let ks = numbers_of is_waiting lane in
    entries-more w (flying_row lane) k ks i 0 s text new whole (slice_get_within ks i s (sym there))
    (sym (get_or_from_slice_get ks i s 0 (sym there))) before
    (e ∙ ap (λ o. text ++ row_text (record { word = w; numbers = k ∷ s ∷ held_numbers o })) (sym held))

-- all are
pub flying-end : (w : List ℕ) (k : ℕ) (lane : Lane) (i : ℕ) (text old : List ℕ) → length (numbers_of is_waiting lane) ≤ i
    → text ++ waiting_text w k lane (drop i (numbers_of is_waiting lane)) ≡ old ++ waiting_text w k lane (numbers_of is_waiting lane)
    → text ≡ old ++ table_text w (map (λ row. k ∷ row) (flying_rows 0 lane))
flying-end w k lane i text old l before =
    entries-end w (λ s. k ∷ flying_row lane s) (numbers_of is_waiting lane) i text _ l before
    ∙ ap (λ rows. old ++ table_text w rows)
    (sym (ap (map (λ row. k ∷ row)) (flying-waiting lane) ∙ map-map (λ row. k ∷ row) (flying_row lane) (numbers_of is_waiting lane)))
