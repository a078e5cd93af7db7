-- Executions and deliveries are useful where they are enabled.
use Rattle.std.proofs.Common.{◌≡◌, ◌∙◌, ap, true, inl, inr}
use Rattle.tcc_msg.specs.Plain.{event_of}
use Rattle.tcc_msg.specs.declared.event.Event.{Event}
use Rattle.rules_tcc.specs.Useful.{is_of_use}
use Rattle.net_core.specs.Machine.{program_of, settings_of, world_of}
use Rattle.net_core.proofs.Useful.Listed.{of-use}
use Rattle.net_core.proofs.system.System.is_useful.Goals as goal

pub returns-in-Exec : goal.returns-in-Exec
returns-in-Exec c =
    let m = c.args.self.now in
    let always : is_of_use (settings_of m) (program_of m) (world_of m) (event_of c.args.e) ≡ true =
    elim c.in-Exec.is [
      | inl q ↦ ap (λ (e : Event). is_of_use (settings_of m) (program_of m) (world_of m) (event_of e)) q.1
      | inr q ↦ ap (λ (e : Event). is_of_use (settings_of m) (program_of m) (world_of m) (event_of e)) q.1
    ] in
    c.enabled.ensures ∙ of-use m (event_of c.args.e) always
