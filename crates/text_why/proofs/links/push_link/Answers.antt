-- Each message in flight in turn.
use Rattle.std.proofs.Common.{string_bytes, ap, sym, ◌∙◌, ◌++◌, arith}
use Rattle.base_lemmas.proofs.Lemmas.{none-past, piece-more, pieces-all}
use Rattle.rules_maps.specs.Bridge.{node_of}
use Rattle.net_core.specs.Machine.{settings_of, world_of}
use Rattle.text_why.proofs.Flying.{flying-text, flying_on, line_of}
use Rattle.text_why.proofs.links.push_link.Goals as goal
use Rattle.text_why.proofs.links.push_link.Goals.{in-Some+in_ok-push_if_waiting, in_default}

pub loop-i-preserved : goal.loop-i-preserved
loop-i-preserved c =
    let sh = settings_of c.args.system.now in
    let w = world_of c.args.system.now in
    let flying = flying_on w (node_of c.args.src) (node_of c.args.dst) in
    elim c.match-flying_at.branch [
      | in-Some+in_ok-push_if_waiting b ↦
          piece-more (line_of sh w (node_of c.args.src) (node_of c.args.dst)) flying c.loop-i.i b.in-Some.seq
          (string_bytes c.args.text.now) (string_bytes c.loop-i.text) (string_bytes c.match-flying_at.text)
          (sym b.in-Some.ensures.number) c.loop-i.invariant (ap string_bytes b.text-is ∙ b.in_ok-push_if_waiting.ensures)
      | in_default b ↦
          absurd (none-past flying c.loop-i.i (sym b.in_default.ensures.number) (omega (arith, c.flying-i-end.ensures, c.loop-i-test.true)))
    ]

pub returns : goal.returns
returns c =
    let sh = settings_of c.args.system.now in
    let w = world_of c.args.system.now in
    let src = node_of c.args.src in
    let dst = node_of c.args.dst in
    pieces-all (line_of sh w src dst) (flying_on w src dst) c.loop-i.i (string_bytes c.args.text.now) (string_bytes c.loop-i.text)
    (omega (arith, c.flying-i-end.ensures, c.loop-i-test.false)) c.loop-i.invariant
    ∙ ap (λ lines. string_bytes c.args.text.now ++ lines) (flying-text sh w src dst)
