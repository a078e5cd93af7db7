-- What other crates may cite: the useful events of a machine's cores are those of each core, and an execution with its line at hand makes
-- the core wait to go on alone where one without does.
pub use Rattle.core_node.proofs.Worlds.{useful-evicts, useful-execs, is_moved}
pub use Rattle.core_node.proofs.AloneWith.{alone-with}
pub use Rattle.core_node.proofs.Finished.{cache-finished}
