-- What other crates may cite: that a core stays as its attempt says, event by event.
pub use Rattle.theorem_attempt.proofs.Follows.{Claim, finished-claims, follows-into, follows-same, in-to, patched-small, with_words}
pub use Rattle.theorem_attempt.proofs.FollowsDeliver.{core_deliver-follows, core_evict-follows, rolled-follows}
pub use Rattle.theorem_attempt.proofs.FollowsExec.{commit-follows, core_exec-follows, solo_commit-follows, sees-modified}
pub use Rattle.theorem_attempt.proofs.FollowsRun.{attempts-fit, start-follows}
pub use Rattle.theorem_attempt.proofs.Marks.{SameBut, core_exec-fit, finished-same, none-used}
pub use Rattle.theorem_attempt.proofs.MarksDeliver.{core_deliver-fit, core_evict-fit, hit-reads}
pub use Rattle.theorem_attempt.proofs.Sound.{finished-sound}
pub use Rattle.theorem_attempt.proofs.SoundDeliver.{core_deliver-sound, core_evict-sound, emptied-sound, rolled-sound, start-sound}
pub use Rattle.theorem_attempt.proofs.SoundExec.{commit-sound, core_exec-sound, solo_commit-sound}
