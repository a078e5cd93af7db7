-- What other crates may cite: where a list ends, and the masks of a line's words.
pub use Rattle.watch_core.proofs.Masks.{clean, dirty-bit, some-bit}
