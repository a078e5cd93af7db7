-- What other crates may cite: what directories are at the start.
pub use Rattle.machine_dirs.proofs.Parts.{dir-first}
pub use Rattle.machine_dirs.proofs.MarkedTo.{get-within, link-within, those-find}
