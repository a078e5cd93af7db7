-- What other crates may cite: what is told of a report doesn't hang on its commits, and a table that is done tells every end.
pub use Rattle.text_outcomes.proofs.Alike.{told-commits}
pub use Rattle.text_outcomes.proofs.Ends.{tables-tell-every-end}
pub use Rattle.text_outcomes.proofs.Put.{rose-later}
