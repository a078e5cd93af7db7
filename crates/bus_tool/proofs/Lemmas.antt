-- What other crates may cite.
pub use Rattle.bus_tool.proofs.Told.{reports-as-done}
pub use Rattle.bus_tool.proofs.Picked.{chosen_at, no-words, picks-none, picks-one}
pub use Rattle.bus_tool.proofs.Ran.{picks-there}
