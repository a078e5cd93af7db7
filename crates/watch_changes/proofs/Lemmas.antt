-- What other crates may cite: what changed, put on what was, gives what is; nothing is told twice, or as it was; the records of a node are
-- ordered; an event changes those of its own node alone, and of those only the ones that it touches; all records of a state are told node
-- by node; a trace without records is the trace; and what one more event adds to the text of a run.
pub use Rattle.watch_changes.proofs.Acting.{acts-alone}
pub use Rattle.watch_changes.proofs.Beginning.{begins-by-node}
pub use Rattle.watch_changes.proofs.Growing.{shown-more, shown-none, shown-parts}
pub use Rattle.watch_changes.proofs.Merging.{changes-new, changes-ordered, put-changes}
pub use Rattle.watch_changes.proofs.Ordered.{records-ordered}
pub use Rattle.watch_changes.proofs.Touching.{touched-suffices}
pub use Rattle.watch_changes.proofs.Traced.{plain-from, plain-trace}
pub use Rattle.watch_changes.proofs.Lowering.{alike-is, alike-self}
