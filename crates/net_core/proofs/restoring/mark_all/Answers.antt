-- The messages to one more directory.
use Rattle.std.proofs.Common.{◌≤◌, ap, ◌∙◌, arith}
use Rattle.tcc_base.specs.Settings.{Settings}
use Rattle.net_core.proofs.Marking.{at-home, marked-all}
use Rattle.net_core.proofs.restoring.mark_all.Goals as goal

pub mark-requires-clause-home : goal.mark-requires-clause-home
mark-requires-clause-home c = at-home c.args.dirs.now c.args.flights.now _ _ c.loop-d.invariant.net c.requires.going

pub returns-clause-marked : goal.returns-clause-marked
returns-clause-marked c =
    let s = c.args.dirs.now.settings in
    let count = c.dirs-d-end.ensures.value ∙ ap (λ (k : Settings). k.dirs) c.config.ensures in
    let all : s.dirs ≤ c.loop-d.d = omega (arith, count, c.loop-d-test.false) in
    marked-all c.args.dirs.now c.args.flights.now c.loop-d.flights c.loop-d.d c.loop-d.invariant all c.requires.going c.requires.ready
