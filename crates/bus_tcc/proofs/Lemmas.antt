-- What other crates may cite: that one more event leads on from what a machine has come to.
pub use Rattle.bus_tcc.proofs.Reaching.{reached-on, reached-same}
