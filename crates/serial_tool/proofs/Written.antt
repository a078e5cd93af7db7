-- One step of the loops that write the text of a machine.
use Rattle.std.proofs.Common.{◌≡◌, ℕ, suc, ◌+◌, ◌-◌, ◌*◌, ◌<◌, ◌≤◌, List, [], ◌∷◌, ◌++◌, drop, take, refl, sym, ap, ◌∙◌, append_assoc}
use Rattle.std.proofs.Common.{arith}
use Rattle.std.proofs.lemmas.List.{drop-drop}
use Rattle.std.proofs.lemmas.List.Concat.{flat_map-append}
use Rattle.row_text.specs.Rows.{Row, row_text, rows_text}
use Rattle.rules_program.specs.Registers.{register}
use Rattle.serial_tool.specs.PlainTexts.{mem_row, mem_rows, registers}

pub registers-next : (n : ℕ) (regs : List ℕ) → n < 32
    → registers (32 - n) n regs ≡ register regs n ∷ registers (32 - (n + 1)) (n + 1) regs
unfolding registers
registers-next n regs lt = let e : 32 - n ≡ suc (32 - (n + 1)) = omega arith in rw e refl

pub registers-end : (n : ℕ) (regs : List ℕ) → 32 ≤ n → registers (32 - n) n regs ≡ []
unfolding registers
registers-end n regs past = let e : 32 - n ≡ 0 = omega arith in rw e refl

pub lines-next : (lines line : ℕ) (ram : List ℕ) → line < lines
    → mem_rows (lines - line) line (drop (8 * line) ram)
    ≡ mem_row line (take 8 (drop (8 * line) ram)) ++ mem_rows (lines - (line + 1)) (line + 1) (drop (8 * (line + 1)) ram)
unfolding mem_rows
lines-next lines line ram lt =
    let e : lines - line ≡ suc (lines - (line + 1)) = omega arith in
    let place : 8 * line + 8 ≡ 8 * (line + 1) = omega arith in
    let more : drop 8 (drop (8 * line) ram) ≡ drop (8 * (line + 1)) ram = drop-drop 8 (8 * line) ram ∙ ap (λ k. drop k ram) place in
    rw (e, more) refl

pub rows-append : (xs ys : List Row) → rows_text (xs ++ ys) ≡ rows_text xs ++ rows_text ys
unfolding rows_text
rows-append xs ys = flat_map-append row_text xs ys

pub line-written : (lines line : ℕ) (ram before text new total : List ℕ) → line < lines
    → text ++ rows_text (mem_rows (lines - line) line (drop (8 * line) ram)) ≡ total
    → new ≡ text ++ rows_text (mem_row line (take 8 (drop (8 * line) ram)))
    → new ++ rows_text (mem_rows (lines - (line + 1)) (line + 1) (drop (8 * (line + 1)) ram)) ≡ total
line-written lines line ram before text new total lt so_far pushed =
    let here = mem_row line (take 8 (drop (8 * line) ram)) in
    let more = mem_rows (lines - (line + 1)) (line + 1) (drop (8 * (line + 1)) ram) in
    ap (λ (t : List ℕ). t ++ rows_text more) pushed
    ∙ append_assoc text (rows_text here) (rows_text more)
    ∙ ap (λ (t : List ℕ). text ++ t) (sym (rows-append here more) ∙ ap rows_text (sym (lines-next lines line ram lt)))
    ∙ so_far
