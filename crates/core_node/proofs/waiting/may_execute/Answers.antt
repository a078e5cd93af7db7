-- A core that awaits no line executes exactly where it waits for no room.
use Rattle.std.proofs.Common.{not, is_some, ap, ◌∙◌, sym, Option, ℕ}
use Rattle.rules_tcc.specs.CoreExec.{unless_awaiting}
use Rattle.rules_tcc.specs.Useful.{room_unless_awaiting}
use Rattle.core_node.specs.View.{awaited_of, core_of}
use Rattle.core_node.specs.declared.state.Awaited.{Awaited}
use Rattle.core_node.proofs.Enabled.{execute_or_room}
use Rattle.core_node.proofs.waiting.may_execute.Goals as goal

pub returns-in-Some : goal.returns-in-Some
returns-in-Some c = λ p h.
    let k = c.args.core.now in
    sym (ap (λ (o : Option Awaited). is_some (unless_awaiting k.config p k.id.0 (core_of k) (awaited_of o))) c.in-Some.is)

pub returns-in-None : goal.returns-in-None
unfolding core_of
returns-in-None c = λ p h.
    let k = c.args.core.now in
    c.is_free.ensures
    ∙ ap (λ (r : Option ℕ). not (is_some r))
    (h ∙ ap (λ (o : Option Awaited). room_unless_awaiting k.config p (core_of k) (awaited_of o)) c.in-None.is)
    ∙ sym (execute_or_room k.config p k.id.0 (core_of k))
    ∙ sym (ap (λ (o : Option Awaited). is_some (unless_awaiting k.config p k.id.0 (core_of k) (awaited_of o))) c.in-None.is)
