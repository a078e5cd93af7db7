-- What other crates may cite: the laws, that what is sent fits its link, and that a core executes or waits for room in a set where some
-- frame can be emptied.
pub use Rattle.theorem_live.proofs.CoreFits.{Fit, fit-exec, fit-evict, fit-grant, fit-back}
pub use Rattle.theorem_live.proofs.DirFits.{FitAnswer, KeptDir, fit-answer}
pub use Rattle.theorem_live.proofs.FitSteps.{Clean, links_fit, step-clean}
pub use Rattle.theorem_live.proofs.Room.{Emptied, Wants, WantsSome, emptied, exec-or}
pub use Rattle.theorem_live.proofs.Strays.{AllFit, on_link as strays_on, link-none as strays-none, link-clean, link-fits, sending-clean}
pub use Rattle.theorem_live.proofs.Stuck.{no_state_is_stuck, each_core_goes_on, picked_ends_done, halted-or}
pub use Rattle.theorem_live.proofs.Events.{some_granted, some_taken}
