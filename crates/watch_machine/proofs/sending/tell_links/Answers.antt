-- Each destination in turn.
use Rattle.std.proofs.Common.{ap, map, sym, ◌∙◌, arith}
use Rattle.std.specs.Prelude.{slice_get}
use Rattle.base_lemmas.proofs.Lemmas.{none-past}
use Rattle.rules_maps.specs.Bridge.{node_of}
use Rattle.rules_tcc.specs.Useful.{nodes}
use Rattle.net_core.specs.Machine.{settings_of}
use Rattle.watch.specs.Plain.{fact_of}
use Rattle.watch_machine.specs.Telling.{last_to}
use Rattle.watch_machine.proofs.Numbering.{node-told}
use Rattle.watch_machine.proofs.sending.tell_links.Goals as goal
use Rattle.watch_machine.proofs.sending.tell_links.Goals.{in-Some+in_ok-tell_link, in_default}

pub loop-place-preserved : goal.loop-place-preserved
loop-place-preserved c =
    let sh = settings_of c.args.system.now in
    let k = c.loop-place.place in
    elim c.match-node_at.branch [
      | in-Some+in_ok-tell_link b ↦
          node-told (last_to c.args.system.now (node_of c.args.src)) (nodes sh) k (node_of b.in-Some.dst)
          (map fact_of c.args.facts.now) (map fact_of c.loop-place.facts) (map fact_of c.match-node_at.facts)
          (sym (b.in-Some.ensures ∙ ap (λ s. slice_get (nodes s) k) c.config-config.ensures)) c.loop-place.invariant
          (ap (map fact_of) b.facts-is ∙ b.in_ok-tell_link.ensures)
      | in_default b ↦
          absurd (none-past (nodes c.config-config.result.now) k (sym b.in_default.ensures)
          (omega (arith, c.node_count-place-end.ensures, c.loop-place-test.true)))
    ]
