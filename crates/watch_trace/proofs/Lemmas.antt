-- What other crates may cite: the parts of a trace, what one more event adds to the text of a run, and to the run, and to lines.
pub use Rattle.watch_trace.proofs.Growing.{run-more, text-more, text-shown, text-hidden, text-none, trace-parts}
pub use Rattle.watch_trace.proofs.Lists.{joined-from}
