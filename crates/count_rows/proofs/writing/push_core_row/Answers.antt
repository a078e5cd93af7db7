-- The table is that of the phases.
use Rattle.std.proofs.Common.{◌≡◌, ◌∷◌, ◌++◌, OnOk, subst, sym}
use Rattle.row_text.specs.Rows.{row_text}
use Rattle.watch_count.specs.declared.rows.Table.{Table}
use Rattle.count_rows.specs.Rows.{core_numbers, table_word}
use Rattle.count_rows.proofs.writing.push_core_row.Goals as goal

pub returns-in-Phases : goal.returns-in-Phases
returns-in-Phases c =
    subst (λ (t : Table). OnOk c.push_phases.result (c.push_phases.new.text
    ≡ c.args.text.now ++ row_text (record { word = table_word t; numbers = c.args.k ∷ core_numbers t c.args.core.now })))
    (sym c.in-Phases.is) c.push_phases.ensures
