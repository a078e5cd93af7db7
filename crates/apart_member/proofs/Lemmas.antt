-- What other crates may cite: what never waits is always taken.
pub use Rattle.apart_member.proofs.TakenAlways.{always-taken}
