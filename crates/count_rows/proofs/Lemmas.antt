-- What other crates may cite.
pub use Rattle.count_rows.proofs.Same.{counts-same, counts-words}
