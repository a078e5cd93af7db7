-- The outcomes so far are held or written.
use Rattle.std.proofs.Common.{◌≤◌, ◌++◌, string_bytes}
use Rattle.text_outcomes.specs.Table.{outcome_of, outcome_text}
use Rattle.text_outcomes.specs.Written.{IsPut}
use Rattle.text_outcomes.proofs.Parts.{first_texts}
use Rattle.text_outcomes.proofs.writing.put_outcomes.Given as goal

abbrev pub invariant-loop-i : goal.invariant-loop-i
invariant-loop-i g l =
    IsPut (string_bytes l.fn.held ++ first_texts (outcome_text l.table.tell) (outcome_of l.table.explored.now l.table.results.now) l.i)
    (string_bytes l.held) (g.O.Sink.page l.fn.out).bytes (g.O.Sink.page l.out).bytes
    × ((g.O.Sink.page l.fn.out).faults ≤ (g.O.Sink.page l.out).faults)
