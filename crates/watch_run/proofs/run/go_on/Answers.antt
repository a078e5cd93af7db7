-- The next words of the seed pick the events.
use Rattle.std.proofs.Common.{◌+◌, ◌-◌, ◌^◌, ◌∙◌, List, ap, arith, min, subst}
use Rattle.rules_maps.specs.Nodes.{Event}
use Rattle.watch_run.specs.Looked.{CountedMore}
use Rattle.watch_run.specs.Runs.{RunData}
use Rattle.watch_run.proofs.Runs.{Settles, coming-few, coming-next, went-on}
use Rattle.watch_run.proofs.run.go_on.Goals as goal

pub count_events-requires-clause-few : goal.count_events-requires-clause-few
count_events-requires-clause-few c = omega (arith, c.settle.ensures.events, c.requires.few)

pub count_events-requires-clause-enough : goal.count_events-requires-clause-enough
count_events-requires-clause-enough c =
    let run : RunData = record {
      machine = c.args.system.now;
      counts = c.args.counts.now;
      seed = c.args.seed;
      drawn = c.args.drawn;
    } in
    coming-few run c.args.steps _ _ c.settle.new.self c.after-events.ensures.left c.after-events.ensures.chooser

pub returns : goal.returns
returns c =
    let run : RunData = record {
      machine = c.args.system.now;
      counts = c.args.counts.now;
      seed = c.args.seed;
      drawn = c.args.drawn;
    } in
    let put = c.settle.ensures in
    let settles : Settles c.args.system.now c.settle.new.self = record {
      history = put.history;
      unsent = c.in_ok-settle.ensures.settled;
      events = put.events;
      code = ap (λ k. k.code) put.cores;
    } in
    went-on c.args.steps run c.settle.new.self c.count_events.new.system c.count_events.new.counts _ settles
    (subst (λ (es : List Event). CountedMore c.settle.new.self c.count_events.new.system c.args.counts.now c.count_events.new.counts es)
    (coming-next run c.args.steps _ _ c.settle.new.self c.after-events.ensures.left c.after-events.ensures.chooser)
    c.in_ok-count_events.ensures)
    c.requires.few
    (c.saturating_add.ensures
    ∙ (λ i. min (c.args.drawn + (c.events.ensures.count i - c.events-before.ensures.count i)) (2 ^ 64 - 1)))
