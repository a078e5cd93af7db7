-- Where the messages rise each in its turn is all by node.
use Rattle.std.proofs.Common.{◌≡◌, ◌++◌, refl, ap, map, subst, ◌∙◌}
use Rattle.std.proofs.lemmas.Result.{on_ok_weaker}
use Rattle.rules_maps.specs.Bridge.{node_of}
use Rattle.net_core.specs.Machine.{settings_of}
use Rattle.watch.specs.Plain.{fact_of}
use Rattle.watch_machine.specs.Rising.{Rises, each_told}
use Rattle.watch_machine.proofs.Rising.{rising-told}
use Rattle.watch_machine.proofs.sending.tell_sent.Goals as goal

pub returns-then-rises : goal.returns-then-rises
returns-then-rises c =
    let m = c.args.system.now in
    let src = node_of c.args.src in
    let old = map fact_of c.args.facts.now in
    let last : c.last_sent-messages.result.now ≡ m.last = c.last_sent-messages.ensures in
    let rise : Rises (settings_of m) 0 m.last =
    subst (λ ms. Rises (settings_of m) 0 ms) last
    (subst (λ s. Rises s 0 c.last_sent-messages.result.now) c.config.ensures (c.if-rises.ensures refl)) in
    on_ok_weaker c.tell_each.result
    (λ told. told ∙ ap (λ ms. old ++ each_told m src ms) last ∙ ap (λ fs. old ++ fs) (rising-told m src rise)) c.tell_each.ensures
