-- What the proofs of other crates cite of this one.
pub use Rattle.rules_program.proofs.Cores.{consoles_are_printed, serial_takes_its_cores}
pub use Rattle.rules_program.proofs.Serials.{serial-append, serial-snoc, last_tid-snoc}
