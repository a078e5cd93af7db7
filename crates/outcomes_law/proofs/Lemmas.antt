-- What other crates may cite: that a core that has halted has ended, and so all have where a run is done.
pub use Rattle.outcomes_law.proofs.Done.{HaltsEnd, halted-cores-have-ended, done-runs-have-ended}
