-- What other crates may cite: elements of joined lists by number, how many evictions a core can have, and the states of cores, of which
-- one is another one.
pub use Rattle.machine_cores.proofs.Flat.{get-right}
pub use Rattle.machine_cores.proofs.Limits.{evicts-fit, numbers-length}
pub use Rattle.machine_cores.proofs.Banks.{cores-at, cores-put, cores-with, put-same}
pub use Rattle.machine_cores.proofs.Totals.{numbers-at}
