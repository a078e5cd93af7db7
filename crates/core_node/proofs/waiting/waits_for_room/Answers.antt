use Rattle.std.proofs.Common.{ap, ◌∙◌, sym}
use Rattle.image_load.specs.Contents.{started}
use Rattle.rv_code.specs.Machine.{program}
use Rattle.rules_tcc.specs.Useful.{room, room_in_phase}
use Rattle.commit_engine.specs.Engine.{phase_of}
use Rattle.commit_engine.specs.declared.phase.Phase.{Phase}
use Rattle.core_node.specs.View.{core_of}
use Rattle.core_node.proofs.Rooms.{room_overflowing}
use Rattle.core_node.proofs.waiting.waits_for_room.Goals as goal

pub returns-in-Running : goal.returns-in-Running
unfolding room core_of
returns-in-Running c =
    let k = c.args.core.now in
    c.room_unless_awaiting.ensures ∙ sym (ap (λ (q : Phase). room_in_phase k.config (program (started c.args.code.now)) (core_of k)
    (phase_of q)) c.in-Running.is)

pub returns-in-Solo : goal.returns-in-Solo
unfolding room core_of
returns-in-Solo c =
    let k = c.args.core.now in
    c.room_unless_awaiting-in-Solo.ensures ∙ sym (ap (λ (q : Phase). room_in_phase k.config (program (started c.args.code.now))
    (core_of k) (phase_of q)) c.in-Solo.is)

pub returns-in-AwaitTid : goal.returns-in-AwaitTid
unfolding room core_of
returns-in-AwaitTid c =
    let k = c.args.core.now in
    sym (ap (λ (q : Phase). room_in_phase k.config (program (started c.args.code.now)) (core_of k) (phase_of q)) c.in-AwaitTid.is)

pub returns-in-DoomedTid : goal.returns-in-DoomedTid
unfolding room core_of
returns-in-DoomedTid c =
    let k = c.args.core.now in
    sym (ap (λ (q : Phase). room_in_phase k.config (program (started c.args.code.now)) (core_of k) (phase_of q)) c.in-DoomedTid.is)

pub returns-in-Probing : goal.returns-in-Probing
unfolding room core_of
returns-in-Probing c =
    let k = c.args.core.now in
    sym (ap (λ (q : Phase). room_in_phase k.config (program (started c.args.code.now)) (core_of k) (phase_of q)) c.in-Probing.is)

pub returns-in-Ready : goal.returns-in-Ready
unfolding room core_of
returns-in-Ready c =
    let k = c.args.core.now in
    sym (ap (λ (q : Phase). room_in_phase k.config (program (started c.args.code.now)) (core_of k) (phase_of q)) c.in-Ready.is)

pub returns-in-Overflowing : goal.returns-in-Overflowing
unfolding room core_of
returns-in-Overflowing c =
    let k = c.args.core.now in
    room_overflowing k.config (program (started c.args.code.now)) (core_of k) c.in-Overflowing.field-0
    ∙ sym (ap (λ (q : Phase). room_in_phase k.config (program (started c.args.code.now)) (core_of k)
    (phase_of q)) c.in-Overflowing.is)

pub returns-in-Halted : goal.returns-in-Halted
unfolding room core_of
returns-in-Halted c =
    let k = c.args.core.now in
    sym (ap (λ (q : Phase). room_in_phase k.config (program (started c.args.code.now)) (core_of k) (phase_of q)) c.in-Halted.is)
