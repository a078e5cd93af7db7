-- Each destination in turn.
use Rattle.std.proofs.Common.{string_bytes, ap, sym, ◌∙◌, arith}
use Rattle.std.specs.Prelude.{slice_get}
use Rattle.base_lemmas.proofs.Lemmas.{none-past, piece-more}
use Rattle.rules_maps.specs.Bridge.{node_of}
use Rattle.rules_tcc.specs.Useful.{nodes}
use Rattle.net_core.specs.Machine.{settings_of, world_of}
use Rattle.text_why.specs.Text.{link_text}
use Rattle.text_why.proofs.links.push_links_from.Goals as goal
use Rattle.text_why.proofs.links.push_links_from.Goals.{in-Some+in_ok-push_link, in_default}

pub loop-place-preserved : goal.loop-place-preserved
loop-place-preserved c =
    let sh = settings_of c.args.system.now in
    let k = c.loop-place.place in
    elim c.match-node_at.branch [
      | in-Some+in_ok-push_link b ↦
          piece-more (link_text sh (world_of c.args.system.now) (node_of c.args.src)) (nodes sh) k (node_of b.in-Some.dst)
          (string_bytes c.args.text.now) (string_bytes c.loop-place.text) (string_bytes c.match-node_at.text)
          (sym (b.in-Some.ensures ∙ ap (λ s. slice_get (nodes s) k) c.config-config.ensures)) c.loop-place.invariant
          (ap string_bytes b.text-is ∙ b.in_ok-push_link.ensures)
      | in_default b ↦
          absurd (none-past (nodes c.config-config.result.now) k (sym b.in_default.ensures)
          (omega (arith, c.node_count-place-end.ensures, c.loop-place-test.true)))
    ]
