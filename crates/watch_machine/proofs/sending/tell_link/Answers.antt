-- Where nothing was sent there nothing is told.
use Rattle.std.proofs.Common.{◌≡◌, ◌++◌, append-nil, ap, length, map, sym, ◌∙◌}
use Rattle.rules_maps.specs.Bridge.{node_of}
use Rattle.tcc_msg.specs.Plain.{sends_of}
use Rattle.watch.specs.Plain.{fact_of}
use Rattle.watch_machine.proofs.Numbering.{none-to}
use Rattle.watch_machine.proofs.sending.tell_link.Goals as goal

pub returns-then-count-eq0 : goal.returns-then-count-eq0
returns-then-count-eq0 c =
    let m = c.args.system.now in
    let dst = node_of c.args.dst in
    let none : length (sends_of m.last dst) ≡ 0 =
    sym (c.count_to-count.ensures ∙ ap (λ ms. length (sends_of ms dst)) c.last_sent-messages.ensures) ∙ c.if-count-eq0.true in
    sym (ap (λ fs. map fact_of c.args.facts.now ++ fs) (none-to m (node_of c.args.src) dst none)
    ∙ append-nil (map fact_of c.args.facts.now))
