-- What other crates may cite: what a directory takes in every state.
pub use Rattle.directory.proofs.AlwaysTaken.{if-always, skip-taken, abort-taken, acknowledgement-taken}
