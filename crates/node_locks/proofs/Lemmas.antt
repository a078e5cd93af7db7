-- What other crates may cite.
pub use Rattle.node_locks.proofs.Fits.Sides.{place-within}
