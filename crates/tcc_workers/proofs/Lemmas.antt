-- What other crates may cite.
pub use Rattle.tcc_workers.proofs.Turning.{made-more, one-entry}
