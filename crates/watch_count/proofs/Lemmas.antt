-- What other crates may cite: texts that grow piece by piece, and what messages add that were sent.
pub use Rattle.watch_count.proofs.Pieces.{grown8, grown9, went-well}
pub use Rattle.watch_count.proofs.Sending.{counted-append, sent-both, sent-told}
pub use Rattle.watch_count.proofs.Lists.{length-changed, length-changed_if}
