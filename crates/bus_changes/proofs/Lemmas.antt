-- What other crates may cite: what an event of a run leaves as it was, that its core exists, and that a trace without records is the trace.
pub use Rattle.bus_changes.proofs.Following.{acts-there, events-follow}
pub use Rattle.bus_changes.proofs.Traced.{plain-events, plain-from, plain-trace}
