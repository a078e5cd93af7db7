use Rattle.std.proofs.Common.{ap, ◌∙◌, sym, Option}
use Rattle.image_load.specs.Contents.{started}
use Rattle.rv_code.specs.Machine.{program}
use Rattle.rules_tcc.specs.Useful.{room_unless_awaiting}
use Rattle.core_node.specs.View.{awaited_of, core_of}
use Rattle.core_node.specs.declared.state.Awaited.{Awaited}
use Rattle.core_node.proofs.waiting.room_unless_awaiting.Goals as goal

pub returns-in-Some : goal.returns-in-Some
returns-in-Some c =
    let k = c.args.core.now in
    sym (ap (λ (o : Option Awaited). room_unless_awaiting k.config (program (started c.args.code.now)) (core_of k)
    (awaited_of o)) c.in-Some.is)

pub returns-in-None : goal.returns-in-None
unfolding core_of
returns-in-None c =
    let k = c.args.core.now in
    c.room_at_pc.ensures ∙ sym (ap (λ (o : Option Awaited). room_unless_awaiting k.config (program (started c.args.code.now))
    (core_of k) (awaited_of o)) c.in-None.is)
