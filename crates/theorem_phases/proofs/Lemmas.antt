-- What the proofs of other crates cite of this one.
pub use Rattle.theorem_phases.proofs.Events.Asking.{one_request_each}
pub use Rattle.theorem_phases.proofs.Events.Staying.{halts_stay, requests_stay, untaken}
pub use Rattle.theorem_phases.proofs.Running.Chosen.{a_schedule_picked_by_phases_runs}
pub use Rattle.theorem_phases.proofs.Serial.Growing.{phases_grow}
pub use Rattle.theorem_phases.proofs.Running.NeverFall.{phases_never_fall}
pub use Rattle.theorem_phases.proofs.Running.Runs.{phased_runs_are_runs}
pub use Rattle.theorem_phases.proofs.Running.Stuck.{phased_never_stuck, phased_picked_ends_done}
pub use Rattle.theorem_phases.proofs.Events.Noting.{NotedIn, step-notes}
unfoldable pub use Rattle.theorem_phases.proofs.Serial.Inserted.{IsLast}
pub use Rattle.theorem_phases.proofs.Serial.Growing.{State, noted-last, run-snoc, state_after}
