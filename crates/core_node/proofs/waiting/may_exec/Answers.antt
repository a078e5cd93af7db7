-- By the phase.
use Rattle.std.proofs.Common.{is_some, ap, ◌∙◌, sym}
use Rattle.rules_tcc.specs.CoreExec.{core_exec, exec_in_phase}
use Rattle.rules_tcc.specs.Useful.{room, room_in_phase}
use Rattle.commit_engine.specs.Engine.{phase_of}
use Rattle.commit_engine.specs.declared.phase.Phase.{Phase}
use Rattle.core_node.specs.View.{core_of}
use Rattle.core_node.proofs.Enabled.{exec_overflowing}
use Rattle.core_node.proofs.waiting.may_exec.Goals as goal

pub returns-in-Running : goal.returns-in-Running
unfolding core_exec core_of room
returns-in-Running c = λ p h.
    let k = c.args.core.now in
    c.may_execute.ensures p (h ∙ ap (λ (q : Phase). room_in_phase k.config p (core_of k) (phase_of q)) c.in-Running.is) ∙
    sym (ap (λ (q : Phase). is_some (exec_in_phase k.config p k.id.0 (core_of k)
    (phase_of q))) c.in-Running.is)

pub returns-in-Solo : goal.returns-in-Solo
unfolding core_exec core_of room
returns-in-Solo c = λ p h.
    let k = c.args.core.now in
    c.may_execute-in-Solo.ensures p (h ∙ ap (λ (q : Phase). room_in_phase k.config p (core_of k) (phase_of q)) c.in-Solo.is) ∙
    sym (ap (λ (q : Phase). is_some (exec_in_phase k.config p k.id.0 (core_of k) (phase_of q)))
    c.in-Solo.is)

pub returns-in-Ready : goal.returns-in-Ready
unfolding core_exec core_of room
returns-in-Ready c = λ p h.
    let k = c.args.core.now in
    sym (ap (λ (q : Phase). is_some (exec_in_phase k.config p k.id.0 (core_of k)
    (phase_of q))) c.in-Ready.is)

pub returns-in-AwaitTid : goal.returns-in-AwaitTid
unfolding core_exec core_of room
returns-in-AwaitTid c = λ p h.
    let k = c.args.core.now in
    sym (ap (λ (q : Phase). is_some (exec_in_phase k.config p k.id.0 (core_of k)
    (phase_of q))) c.in-AwaitTid.is)

pub returns-in-DoomedTid : goal.returns-in-DoomedTid
unfolding core_exec core_of room
returns-in-DoomedTid c = λ p h.
    let k = c.args.core.now in
    sym (ap (λ (q : Phase). is_some (exec_in_phase k.config p k.id.0 (core_of k)
    (phase_of q))) c.in-DoomedTid.is)

pub returns-in-Probing : goal.returns-in-Probing
unfolding core_exec core_of room
returns-in-Probing c = λ p h.
    let k = c.args.core.now in
    sym (ap (λ (q : Phase). is_some (exec_in_phase k.config p k.id.0 (core_of k)
    (phase_of q))) c.in-Probing.is)

pub returns-in-Overflowing : goal.returns-in-Overflowing
unfolding core_exec core_of room
returns-in-Overflowing c = λ p h.
    let k = c.args.core.now in
    sym (ap is_some (exec_overflowing k.config p k.id.0 (core_of k) c.in-Overflowing.field-0)) ∙
    sym (ap (λ (q : Phase). is_some (exec_in_phase k.config p k.id.0 (core_of k)
    (phase_of q))) c.in-Overflowing.is)

pub returns-in-Halted : goal.returns-in-Halted
unfolding core_exec core_of room
returns-in-Halted c = λ p h.
    let k = c.args.core.now in
    sym (ap (λ (q : Phase). is_some (exec_in_phase k.config p k.id.0 (core_of k)
    (phase_of q))) c.in-Halted.is)
