-- The first state that tells an outcome is one of those that were found.
use Rattle.std.proofs.lemmas.Result.{on_ok_weaker}
use Rattle.std.specs.String.{string_bytes}
use Rattle.text_outcomes.proofs.Sources.{end-inside, outcome-parts, state-normal}
use Rattle.text_outcomes.proofs.table.push_outcome_at.Goals as goal

pub state-state-requires : goal.state-state-requires
state-state-requires c =
    let t = c.args.table.now in
    rw c.first_at-first.ensures (end-inside t.explored.now.states t.results.now.firsts c.args.i c.requires.one.ends c.requires.inside)

pub push_way-requires : goal.push_way-requires
push_way-requires c =
    let t = c.args.table.now in
    rw c.first_at-first.ensures (end-inside t.explored.now.states t.results.now.firsts c.args.i c.requires.one.ends c.requires.inside)

pub push_told-requires-clause-normal : goal.push_told-requires-clause-normal
push_told-requires-clause-normal c =
    let t = c.args.table.now in
    rw (c.state-state.ensures, c.first_at-first.ensures)
    (state-normal t.loaded.now t.explored.now.states t.results.now.firsts c.args.i c.requires.one.found c.requires.one.ends
    c.requires.inside)

pub returns : goal.returns
returns c =
    let t = c.args.table.now in
    let count = rw c.count_at-count.ensures at c.in_ok-push_outcome.ensures in
    let way = rw c.first_at-first.ensures at c.in_ok-push_way.ensures in
    let told = rw (c.state-state.ensures, c.first_at-first.ensures) at c.push_told.ensures in
    on_ok_weaker c.push_told.result
    (outcome-parts t.loaded.now t.explored.now t.results.now c.args.i t.tell (string_bytes c.args.text.now) _ _ _ c.requires.one.loaded
    count way)
    told
