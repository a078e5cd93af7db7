-- Core by core.
use Rattle.std.proofs.Common.{◌<◌, ◌≤◌, ◌∙◌, length, sym, arith}
use Rattle.std.proofs.lemmas.Option.{slice_get-get_or}
use Rattle.watch_count.specs.Tables.{nothing}
use Rattle.count_rows.specs.Rows.{core_numbers, table_word}
use Rattle.count_rows.proofs.Written.{numbered-end, numbered-found}
use Rattle.count_rows.proofs.writing.push_table.Goals as goal
use Rattle.count_rows.proofs.writing.push_table.Goals.{in-Some+in_ok-push_core_row, in_default}

pub loop-k-preserved : goal.loop-k-preserved
loop-k-preserved c =
    let cores = c.args.counts.now.cores in
    elim c.match-core.branch [
      | in-Some+in_ok-push_core_row w ↦
          numbered-found (table_word c.args.table) (core_numbers c.args.table) cores c.loop-k.k _ _ _ _
          (sym w.in-Some.is ∙ c.core.ensures) c.loop-k.invariant (w.text-is ∙ w.in_ok-push_core_row.ensures)
      | in_default w ↦
          let within : c.loop-k.k < length cores = omega (arith, c.loop-k-test.true, c.core_count-k-end.ensures) in
          absurd (w.in_default.not-Some _ (c.core.ensures ∙ slice_get-get_or cores c.loop-k.k nothing within))
    ]

pub returns : goal.returns
returns c =
    let past : length c.args.counts.now.cores ≤ c.loop-k.k = omega (arith, c.loop-k-test.false, c.core_count-k-end.ensures) in
    numbered-end _ _ _ _ _ _ past c.loop-k.invariant
