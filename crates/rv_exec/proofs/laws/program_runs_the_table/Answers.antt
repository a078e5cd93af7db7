-- By what a fetch finds, and by what the word decodes to.
use Rattle.std.proofs.Common.{◌≡◌, ℕ, Option, Some, None, IfSome, ap, refl, ◌∙◌}
use Rattle.rv_decode.specs.Decoding.{decoded}
use Rattle.rv_decode.specs.Table.{Encodes}
use Rattle.rv_decode.specs.declared.instruction.Inst.{Inst}
use Rattle.rv_exec.specs.Running.{program, need_of_word, need_of_inst, after_word, after_inst}
use Rattle.rv_exec.proofs.laws.program_runs_the_table.Goals as goal

pub returns-clause-nothing_fetched : goal.returns-clause-nothing_fetched
unfolding program
returns-clause-nothing_fetched c = λ fetch in_ram l none. ap (need_of_word in_ram l) none

undecoded : (w : ℕ) (i : Option Inst) → IfSome i (Encodes w) → ((inst : Inst) → Encodes w inst → ⊥) → i ≡ None
undecoded w None row no_row = refl
undecoded w (Some inst) row no_row = absurd (no_row inst row)

pub returns-clause-no_row : goal.returns-clause-no_row
unfolding program
returns-clause-no_row c = λ fetch in_ram l w fetched below no_row.
    let table = c.table_is_a_function_of_the_word.ensures in
    ap (need_of_word in_ram l) fetched ∙ ap (need_of_inst in_ram l) (undecoded w (decoded w) (table.row w below) no_row)

pub returns-clause-row : goal.returns-clause-row
unfolding program
returns-clause-row c = λ fetch in_ram l w inst loaded fetched row.
    let table = c.table_is_a_function_of_the_word.ensures in
    let found : decoded w ≡ Some inst = table.found w inst row in (
      ap (need_of_word in_ram l) fetched ∙ ap (need_of_inst in_ram l) found,
      ap (after_word l loaded) fetched ∙ ap (after_inst l loaded) found,
    )
