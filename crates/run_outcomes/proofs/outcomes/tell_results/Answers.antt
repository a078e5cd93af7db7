use Rattle.run_outcomes.proofs.Every.{every-outcome}
use Rattle.run_outcomes.proofs.Grouped.{groups-start}
use Rattle.run_outcomes.proofs.outcomes.tell_results.Goals as goal

pub note_ends-requires : goal.note_ends-requires
note_ends-requires c = groups-start c.args.tell c.args.explored.now.states
    (record { firsts = c.new.result; counts = c.new-2.result; chains = c.new-3.result }) c.new.ensures c.new-2.ensures c.new-3.ensures

pub returns-clause-every : goal.returns-clause-every
returns-clause-every c =
    let e = c.args.explored.now in
    let groups = c.in_ok-note_ends.ensures in
    λ all. every-outcome e.loaded c.args.tell e.states c.note_ends.new.groups.firsts c.done-done.ensures.found groups.ends groups.told
    (c.done-done.ensures.all all)
