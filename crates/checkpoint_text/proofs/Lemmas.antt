-- What other crates may cite.
pub use Rattle.checkpoint_text.proofs.SameMachines.{machine-words, machines-same}
