-- What other crates may cite: a core's next transaction has one number of instructions, and the orders to a state lead there.
pub use Rattle.run_outcomes.proofs.Once.{transaction-past}
pub use Rattle.run_outcomes.proofs.Paths.{orders_to-lead}
pub use Rattle.run_outcomes.proofs.Ends.{have-ended}
