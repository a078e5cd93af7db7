-- What it did at its node is counted, and then what it sent.
use Rattle.std.proofs.Common.{◌∙◌, ap, map}
use Rattle.std.specs.List.{fold}
use Rattle.tcc_msg.specs.Plain.{event_of, msg_of}
use Rattle.watch.specs.Happened.{actor}
use Rattle.watch.specs.Plain.{fact_of}
use Rattle.watch_count.specs.Counts.{message_sent}
use Rattle.watch_run.proofs.Sent.{node-and-sends}
use Rattle.watch_run.proofs.counting.count_event.Goals as goal

pub returns-clause-counted : goal.returns-clause-counted
returns-clause-counted c =
    let t = c.in-Ok.ensures in
    node-and-sends (actor (event_of c.args.e)) (actor (event_of c.args.e)) c.watch_node.new.system
    (map fact_of c.watch_node.new.facts) _ c.args.counts.now c.count_facts.new.counts c.sent.new.self t.ends t.told
    c.in_ok-count_facts.ensures
    (c.in_ok-sent.ensures ∙ ap (λ ms. fold message_sent c.count_facts.new.counts (map (λ x. msg_of x.1) ms)) c.last_sent.ensures)
