-- What other crates may cite.
pub use Rattle.rv_plain.proofs.Faults.{none-after, steps-none, steps-past}
pub use Rattle.rv_plain.proofs.Starts.{core-started}
pub use Rattle.rv_plain.proofs.Transacted.{cores-put}
pub use Rattle.rv_plain.proofs.Views.{plain_view-buffered_step, seen-put, stepped-view, steps-more, steps-next}
