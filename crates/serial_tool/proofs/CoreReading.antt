-- Cores that are read: their rows, and that no others have them.
use Rattle.std.proofs.Common.{◌≡◌, ℕ, zero, suc, ◌+◌, ◌<◌, ◌≤◌, ◌^◌, List, [], ◌∷◌, ◌++◌, All, codes, length, drop, get_or}
use Rattle.std.proofs.Common.{slice_index, refl, sym, ap, ◌∙◌, subst, append_assoc, append-nil, ne_eqb, slice_set, inl, inr, arith}
use Rattle.std.proofs.lemmas.Bool.{cases_eq}
use Rattle.std.proofs.lemmas.List.{drop_all, drop_more}
use Rattle.std.specs.List.{flat_map}
use Rattle.std.proofs.lemmas.Grind.{common_steps}
use Rattle.std.proofs.lemmas.List.Elements.{All-tail}
use Rattle.row_text.specs.Reading.{HasNoRow, IsRowRead}
use Rattle.row_text.specs.Rows.{Row, row_text, rows_text}
use Rattle.row_text.proofs.Lemmas.{one-row}
use Rattle.rules_program.specs.Registers.{register, written}
use Rattle.rv_plain.specs.Cores.{no_state}
use Rattle.rv_plain.specs.declared.plain.CoreState.{CoreState}
use Rattle.serial_tool.specs.PlainTexts.{CoreFits, HasNoCore, HasNoCores, HasNoRegisters, core_numbers}
use Rattle.serial_tool.specs.PlainTexts.{core_row}
use Rattle.serial_tool.specs.PlainTexts.{core_rows, end_code, end_kind, registers, row}
use Rattle.serial_tool.proofs.Alike.{core-numbers-fit, word-core}
use Rattle.serial_tool.proofs.Written.{rows-append}

-- ---- registers

registers-each : (count first : ℕ) (regs : List ℕ) (k : ℕ) → k < count
    → slice_index (registers count first regs) k ≡ slice_index regs (first + k)
unfolding registers register
registers-each zero first regs k lt = absurd (omega arith)
registers-each (suc count) first regs zero lt = let e : first ≡ first + 0 = omega arith in ap (λ i. slice_index regs i) e
registers-each (suc count) first regs (suc k) lt =
    let e : first + 1 + k ≡ first + suc k = omega arith in
    registers-each count (first + 1) regs k (omega arith) ∙ ap (λ i. slice_index regs i) e

registers-are : (count first : ℕ) (ns regs : List ℕ) → length ns ≡ count
    → ((k : ℕ) → k < count → slice_index ns k ≡ slice_index regs (first + k)) → ns ≡ registers count first regs
unfolding registers register
registers-are zero first [] regs long each = refl
registers-are zero first (n ∷ ns) regs long each = absurd (omega arith)
registers-are (suc count) first [] regs long each = absurd (omega arith)
registers-are (suc count) first (n ∷ ns) regs long each =
    let e : first + 0 ≡ first = omega arith in
    let here : n ≡ slice_index regs first = each 0 (omega arith) ∙ ap (λ i. slice_index regs i) e in
    let rest = registers-are count (first + 1) ns regs (omega arith) (λ k lt.
    let f : first + suc k ≡ first + 1 + k = omega arith in
    each (suc k) (omega arith) ∙ ap (λ i. slice_index regs i) f) in
    λ i. here i ∷ rest i

past-four : (numbers : List ℕ) (k : ℕ) → length numbers ≡ 35 → k < 31 → slice_index (drop 4 numbers) k ≡ slice_index numbers (4 + k)
past-four numbers k long lt = grind (arith, common_steps)

pub registers-read : (numbers regs : List ℕ) → length numbers ≡ 35
    → ((k : ℕ) → 1 ≤ k → k < 32 → slice_index regs k ≡ slice_index numbers (3 + k)) → drop 4 numbers ≡ registers 31 1 regs
registers-read numbers regs long each =
    registers-are 31 1 (drop 4 numbers) regs (grind (arith, common_steps)) (λ k lt.
    let e : 3 + (1 + k) ≡ 4 + k = omega arith in
    past-four numbers k long lt ∙ sym (each (1 + k) (omega arith) (omega arith) ∙ ap (λ i. slice_index numbers i) e))

-- one more register
pub registers-set : (numbers regs new : List ℕ) (n v : ℕ) → 1 ≤ n → n < 32 → length regs ≡ 32
    → ((k : ℕ) → 1 ≤ k → k < n → slice_index regs k ≡ slice_index numbers (3 + k))
    → new ≡ written regs n v → v ≡ slice_index numbers (3 + n)
    → record { count : length new ≡ 32; each : (k : ℕ) → 1 ≤ k → k < n + 1 → slice_index new k ≡ slice_index numbers (3 + k) }
unfolding written
registers-set numbers regs new n v low high long each is value =
    let set : new ≡ slice_set regs n v = is ∙ rw (ne_eqb n 0 (λ e. omega arith)) refl in
    record {
      count = rw set (grind (arith, common_steps));
      each = λ k one lt. elim (cases_eq k n) [
        | inl e ↦ rw (set, e) (grind (arith, common_steps))
        | inr ne ↦ let before = each k one (omega arith) in rw set (grind (arith, common_steps, before))
      ];
    }

small-register : (regs : List ℕ) (k : ℕ) → All (λ v. v < 2 ^ 32) regs → slice_index regs k < 2 ^ 32
small-register [] k h = omega arith
small-register (x ∷ regs) zero h = h 0 0 (omega arith)
small-register (x ∷ regs) (suc k) h = small-register regs k (All-tail (λ v. v < 2 ^ 32) x regs h)

pub no-registers : (numbers : List ℕ) (n : ℕ) → length numbers ≡ 35 → 1 ≤ n → n < 32 → 2 ^ 32 ≤ slice_index numbers (3 + n)
    → HasNoRegisters numbers
no-registers numbers (suc k) long low high large regs fits e =
    let here : slice_index (drop 4 numbers) k ≡ slice_index numbers (4 + k) = past-four numbers k long (omega arith) in
    let same : slice_index (drop 4 numbers) k ≡ slice_index regs (1 + k) =
    ap (λ ns. slice_index ns k) e ∙ registers-each 31 1 regs k (omega arith) in
    let small : slice_index regs (1 + k) < 2 ^ 32 = small-register regs (1 + k) fits in
    let place : 3 + suc k ≡ 4 + k = omega arith in
    let big : 2 ^ 32 ≤ slice_index numbers (4 + k) = subst (λ i. 2 ^ 32 ≤ slice_index numbers i) place large in
    omega arith
no-registers numbers zero long low high large regs fits e = omega arith

-- ---- a core

pub core-read : (numbers : List ℕ) (core : ℕ) (s : CoreState) → length numbers ≡ 35 → slice_index numbers 0 ≡ core
    → slice_index numbers 1 ≡ s.state.pc → slice_index numbers 2 ≡ end_kind s.ended → slice_index numbers 3 ≡ end_code s.ended
    → drop 4 numbers ≡ registers 31 1 s.state.regs → numbers ≡ core_numbers core s
unfolding core_numbers
core-read (a ∷ b ∷ c ∷ d ∷ numbers) core s long first second third fourth rest =
    λ i. first i ∷ second i ∷ third i ∷ fourth i ∷ rest i
core-read [] core s long first second third fourth rest = absurd (omega arith)
core-read (a ∷ []) core s long first second third fourth rest = absurd (omega arith)
core-read (a ∷ b ∷ []) core s long first second third fourth rest = absurd (omega arith)
core-read (a ∷ b ∷ c ∷ []) core s long first second third fourth rest = absurd (omega arith)

-- what a core's numbers tell
pub record Told (core : ℕ) (numbers : List ℕ) (s : CoreState) : Type 0 where
  pub first : slice_index numbers 0 ≡ core
  pub second : slice_index numbers 1 ≡ s.state.pc
  pub third : slice_index numbers 2 ≡ end_kind s.ended
  pub fourth : slice_index numbers 3 ≡ end_code s.ended
  pub rest : drop 4 numbers ≡ registers 31 1 s.state.regs

pub told : (core : ℕ) (numbers : List ℕ) (s : CoreState) → numbers ≡ core_numbers core s → Told core numbers s
unfolding core_numbers
told core numbers s e = record {
  first = ap (λ ns. slice_index ns 0) e;
  second = ap (λ ns. slice_index ns 1) e;
  third = ap (λ ns. slice_index ns 2) e;
  fourth = ap (λ ns. slice_index ns 3) e;
  rest = ap (drop 4) e;
}

-- ---- cores

pub numbers-count : (core : ℕ) (s : CoreState) → length (core_numbers core s) ≡ 35
unfolding core_numbers registers
numbers-count core s = refl

rows-first : (r : Row) (rows : List Row) (tail : List ℕ) → rows_text (r ∷ rows) ++ tail ≡ row_text r ++ (rows_text rows ++ tail)
unfolding rows_text
rows-first r rows tail = append_assoc (row_text r) (flat_map row_text rows) tail

-- the core of this number in a list of cores that have all the rows to come
pub core-next : (core : ℕ) (cores : List CoreState) (tail : List ℕ) → core < length cores
    → rows_text (core_rows core (drop core cores)) ++ tail
    ≡ row_text (core_row core (get_or cores core no_state)) ++ (rows_text (core_rows (core + 1) (drop (core + 1) cores)) ++ tail)
unfolding core_rows
core-next core cores tail lt =
    ap (λ ss. rows_text (core_rows core ss) ++ tail) (drop_more cores core no_state lt)
    ∙ rows-first (core_row core (get_or cores core no_state)) (core_rows (core + 1) (drop (core + 1) cores)) tail

pub no-row-cores : (bytes rest : List ℕ) (count core : ℕ) → core < count
    → ((cores : List CoreState) (tail : List ℕ) → length cores ≡ count → All CoreFits cores
    → bytes ≡ rows_text (core_rows 0 cores) ++ tail → rest ≡ rows_text (core_rows core (drop core cores)) ++ tail)
    → core < 2 ^ 8 → HasNoRow rest (codes "core") 35 → HasNoCores bytes count
no-row-cores bytes rest count core lt one few none cores tail long fits e =
    let within : core < length cores = omega arith in
    let s = get_or cores core no_state in
    none (core_numbers core s) _ (numbers-count core s) (record {
      parts = one cores tail long fits e ∙ core-next core cores tail within;
      fit = core-numbers-fit core s (omega arith) (fits core no_state within);
    })

same-row : (core : ℕ) (s : CoreState) (numbers after more rest : List ℕ) → IsRowRead rest (codes "core") numbers after
    → rest ≡ row_text (core_row core s) ++ more → (numbers ≡ core_numbers core s) × (after ≡ more)
same-row core s numbers after more rest read e =
    let both = one-row (row (codes "core") numbers) (core_row core s) after more word-core word-core (sym read.parts ∙ e) in
    (ap (λ r. r.numbers) both.0, both.1)

pub no-core-cores : (bytes rest : List ℕ) (count core : ℕ) (numbers after : List ℕ) → core < count
    → ((cores : List CoreState) (tail : List ℕ) → length cores ≡ count → All CoreFits cores
    → bytes ≡ rows_text (core_rows 0 cores) ++ tail → rest ≡ rows_text (core_rows core (drop core cores)) ++ tail)
    → core < 2 ^ 8 → IsRowRead rest (codes "core") numbers after → HasNoCore core numbers → HasNoCores bytes count
no-core-cores bytes rest count core numbers after lt one few read none cores tail long fits e =
    let within : core < length cores = omega arith in
    let s = get_or cores core no_state in
    none s (fits core no_state within)
    (same-row core s numbers after _ rest read (one cores tail long fits e ∙ core-next core cores tail within)).0

pub one-core : (bytes rest : List ℕ) (count core : ℕ) (numbers after : List ℕ) → core < count
    → ((cores : List CoreState) (tail : List ℕ) → length cores ≡ count → All CoreFits cores
    → bytes ≡ rows_text (core_rows 0 cores) ++ tail → rest ≡ rows_text (core_rows core (drop core cores)) ++ tail)
    → core < 2 ^ 8 → IsRowRead rest (codes "core") numbers after
    → (cores : List CoreState) (tail : List ℕ) → length cores ≡ count → All CoreFits cores
    → bytes ≡ rows_text (core_rows 0 cores) ++ tail → after ≡ rows_text (core_rows (core + 1) (drop (core + 1) cores)) ++ tail
one-core bytes rest count core numbers after lt one few read cores tail long fits e =
    let within : core < length cores = omega arith in
    let s = get_or cores core no_state in
    (same-row core s numbers after _ rest read (one cores tail long fits e ∙ core-next core cores tail within)).1

core-rows-push : (core : ℕ) (found : List CoreState) (s : CoreState)
    → core_rows core (found ++ s ∷ []) ≡ core_rows core found ++ core_row (core + length found) s ∷ []
unfolding core_rows
core-rows-push core [] s = let e : core ≡ core + 0 = omega arith in ap (λ c. core_row c s ∷ []) e
core-rows-push core (x ∷ found) s =
    let e : core + 1 + length found ≡ core + suc (length found) = omega arith in
    ap (λ rows. core_row core x ∷ rows) (core-rows-push (core + 1) found s
    ∙ ap (λ c. core_rows (core + 1) found ++ core_row c s ∷ []) e)

pub parts-next : (bytes rest after numbers : List ℕ) (core : ℕ) (found : List CoreState) (s : CoreState) → length found ≡ core
    → bytes ≡ rows_text (core_rows 0 found) ++ rest → IsRowRead rest (codes "core") numbers after → numbers ≡ core_numbers core s
    → bytes ≡ rows_text (core_rows 0 (found ++ s ∷ [])) ++ after
unfolding rows_text
parts-next bytes rest after numbers core found s count parts read is =
    let place : core ≡ 0 + length found = omega arith in
    let pushed : core_rows 0 (found ++ s ∷ []) ≡ core_rows 0 found ++ core_row core s ∷ [] =
    core-rows-push 0 found s ∙ ap (λ c. core_rows 0 found ++ core_row c s ∷ []) (sym place) in
    let front : rest ≡ row_text (core_row core s) ++ after =
    read.parts ∙ ap (λ ns. row_text (row (codes "core") ns) ++ after) is in
    parts ∙ ap (λ (r : List ℕ). rows_text (core_rows 0 found) ++ r) front
    ∙ sym (append_assoc (rows_text (core_rows 0 found)) (row_text (core_row core s)) after)
    ∙ sym (ap (λ (rows : List Row). rows_text rows ++ after) pushed
    ∙ ap (λ (t : List ℕ). t ++ after) (rows-append (core_rows 0 found) (core_row core s ∷ [])
    ∙ ap (λ (t : List ℕ). rows_text (core_rows 0 found) ++ t) (append-nil (row_text (core_row core s)))))

pub cores-begin : (bytes : List ℕ) → bytes ≡ rows_text (core_rows 0 []) ++ bytes
unfolding rows_text core_rows
cores-begin bytes = refl

pub cores-end : (core : ℕ) (cores : List CoreState) (tail : List ℕ) → length cores ≤ core
    → rows_text (core_rows core (drop core cores)) ++ tail ≡ tail
unfolding rows_text core_rows
cores-end core cores tail past = rw (drop_all core cores past) refl
