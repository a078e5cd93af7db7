-- What other crates may cite: what is added up message by message of what was sent, in whatever order.
pub use Rattle.watch_machine.proofs.AnyOrder.{in-any-order}
