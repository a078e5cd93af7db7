-- What other crates may cite: that a message in flight is as it may be, that one more event leads on from a run, that a commit has a
-- new TID, which commits were forgotten, which events are enabled, and the parts of the list of useful events.
pub use Rattle.net_core.proofs.Running.{after-all, run-on}
pub use Rattle.net_core.proofs.Keeping.{settled-net, sound-message}
pub use Rattle.net_core.proofs.Events.Kept.{new-tid, length-taking}
pub use Rattle.net_core.proofs.Events.Runs.{answers-after, took-after, one-more, same-code}
pub use Rattle.net_core.proofs.Gone.{forgot-passed}
pub use Rattle.net_core.proofs.Useful.Enabled.{absent-refused, evict-enabled, evict-refused, exec-enabled, exec-refused, flying-enabled}
pub use Rattle.net_core.proofs.Useful.Enabled.{answered-some}
pub use Rattle.net_core.proofs.Useful.Listed.{of-use, useful-parts, one-listed}
pub use Rattle.net_core.proofs.Events.Cores.{known}
pub use Rattle.net_core.proofs.Places.{nodes-length}
