-- What other crates may cite: texts and lists that grow record by record and number by number, and a word as it was loaded.
pub use Rattle.watch_state.proofs.Growing.{lines-more, lines-then, numbers-more, piece-more, then}
pub use Rattle.watch_state.proofs.Listed.{flats-more}
pub use Rattle.watch_state.proofs.ShownLines.{first-is}
