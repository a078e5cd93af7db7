-- Each message in flight in turn.
use Rattle.std.proofs.Common.{string_bytes, ap, sym, ◌∙◌, ◌++◌, arith}
use Rattle.base_lemmas.proofs.Lemmas.{none-past, piece-more, pieces-all}
use Rattle.rules_maps.specs.Bridge.{node_of}
use Rattle.net_core.specs.Machine.{world_of}
use Rattle.watch_state.proofs.Flying.{deliver_text, delivers-written, flying_on}
use Rattle.watch_state.proofs.events.push_link_delivers.Goals as goal
use Rattle.watch_state.proofs.events.push_link_delivers.Goals.{in-Some+in_ok-push_if_enabled, in_default}

pub loop-i-preserved : goal.loop-i-preserved
loop-i-preserved c =
    let w = world_of c.args.system.now in
    let src = node_of c.args.src in
    let dst = node_of c.args.dst in
    elim c.match-flying_at.branch [
      | in-Some+in_ok-push_if_enabled b ↦
          piece-more (deliver_text c.args.system.now src dst) (flying_on w src dst) c.loop-i.i b.in-Some.seq
          (string_bytes c.args.text.now) (string_bytes c.loop-i.text) (string_bytes c.match-flying_at.text)
          (sym b.in-Some.ensures.number) c.loop-i.invariant (ap string_bytes b.text-is ∙ b.in_ok-push_if_enabled.ensures)
      | in_default b ↦
          absurd (none-past (flying_on w src dst) c.loop-i.i (sym b.in_default.ensures.number)
          (omega (arith, c.flying-i-end.ensures, c.loop-i-test.true)))
    ]

pub returns : goal.returns
returns c =
    let m = c.args.system.now in
    let src = node_of c.args.src in
    let dst = node_of c.args.dst in
    pieces-all (deliver_text m src dst) (flying_on (world_of m) src dst) c.loop-i.i
    (string_bytes c.args.text.now) (string_bytes c.loop-i.text)
    (omega (arith, c.flying-i-end.ensures, c.loop-i-test.false)) c.loop-i.invariant
    ∙ ap (λ lines. string_bytes c.args.text.now ++ lines) (delivers-written m src dst)
