-- From the machine at its start to the end of the run.
use Rattle.std.proofs.Common.{◌∙◌, [], ap, arith, refl}
use Rattle.watch_count.specs.Counts.{nothing_counted}
use Rattle.watch_run.proofs.Leading.{StartsAt, is-counted}
use Rattle.watch_run.proofs.Tallies.{counted-none}
use Rattle.watch_run.proofs.counting.count_from_start.Goals as goal

pub count_events-requires-clause-few : goal.count_events-requires-clause-few
count_events-requires-clause-few g c = omega (arith, c.requires.none, c.requires.few)

pub returns : goal.returns
returns g c =
    let m = c.args.system.now in
    let starts : StartsAt m.cores.code m = record { code = refl; first = c.requires.first } in
    let none = counted-none m.cores.code m c.in_ok-counts.counts starts c.requires.none c.requires.settled
    (c.in_ok-counts.ensures ∙ ap (λ s. nothing_counted s.cores) c.config.ensures) in
    is-counted m.cores.code _ c.count_events.new.system c.count_events.new.counts c.done.result c.events.result
    c.requires.allowed (c.in_ok-count_events.ensures.counted m.cores.code [] none) c.done.ensures c.events.ensures.count
