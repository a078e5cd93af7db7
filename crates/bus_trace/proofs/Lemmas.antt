-- What other crates may cite: the parts of a trace, what one more event adds to the text of a run, and to the run, and the words of a
-- packet.
pub use Rattle.bus_trace.proofs.Growing.{bus_run-more, bus_text-more, bus_text-shown, bus_text-hidden, bus_text-none, bus_trace-parts}
pub use Rattle.bus_trace.proofs.Values.{values_masked}
