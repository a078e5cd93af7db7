-- What isn't held back is enabled where the machine's own event is.
use Rattle.std.proofs.Common.{None, ap, sym, ◌∙◌}
use Rattle.std.specs.Prelude.{is_some, if◌then◌else◌}
use Rattle.tcc_msg.specs.Plain.{event_of}
use Rattle.net_core.specs.Answers.{step_of}
use Rattle.net_core.specs.Machine.{Machine}
use Rattle.tcc_phase.proofs.Holding.{goes, goes-some}
use Rattle.tcc_phase.proofs.system.PhaseSystem.enabled.Goals as goal

pub returns-then-not-holds_back : goal.returns-then-not-holds_back
returns-then-not-holds_back c =
    let e = event_of c.args.e in
    let m = c.args.self.now.refined.machine in
    c.enabled.ensures
    ∙ ap (λ (x : Machine). is_some (step_of x e)) (c.system.ensures.machine ∙ ap (λ p. p.refined.machine) c.self.view_is)
    ∙ sym (goes-some m e)
    ∙ sym (ap is_some (c.holds_back.ensures ∙ ap (λ b. if b then None else goes m e) c.if-not-holds_back.true))
