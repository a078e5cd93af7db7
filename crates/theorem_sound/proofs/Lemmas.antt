-- What other crates may cite: that a machine is sound at the start and after each event, whatever commits are forgotten, and that no commit
-- has a TID that another had.
pub use Rattle.theorem_sound.proofs.Steps.{sound_after, sound_at_start, sound_fewer, sound_noted}
