-- What other crates may cite.
pub use Rattle.live_core.proofs.Filtered.{is-at}
