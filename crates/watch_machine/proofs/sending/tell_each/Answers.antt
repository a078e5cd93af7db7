-- The next one is told.
use Rattle.std.proofs.Common.{◌-◌, ap, map, ◌∙◌}
use Rattle.std.proofs.lemmas.List.{map-append}
use Rattle.rules_maps.specs.Bridge.{node_of}
use Rattle.watch.specs.Plain.{fact_of}
use Rattle.watch_machine.proofs.Rising.{each-done, each-more}
use Rattle.watch_machine.proofs.sending.tell_each.Goals as goal

pub loop-dst-preserved : goal.loop-dst-preserved
loop-dst-preserved c =
    each-more c.args.system.now (node_of c.args.src) c.args.messages.now c.loop-dst.dst-index c.saturating_sub.result _
    (map fact_of c.loop-dst.facts) (map fact_of c.push.new.self) _ c.loop-dst-test.true
    (c.saturating_sub.ensures ∙ ap (λ n. n - 1) c.sent_on-sent.ensures)
    (ap (map fact_of) c.in_ok-push.ensures ∙ map-append fact_of c.loop-dst.facts _) c.loop-dst.invariant

pub returns : goal.returns
returns c =
    each-done c.args.system.now (node_of c.args.src) c.args.messages.now c.loop-dst.dst-index (map fact_of c.loop-dst.facts) _
    c.loop-dst-test.false c.loop-dst.invariant
