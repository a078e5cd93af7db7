-- What other crates may cite: the event that a word chooses, the events that words pick one after another, what further words pick, and a
-- machine that takes events.
pub use Rattle.tcc_pick.proofs.Chosen.{answered-so, chosen-at, chosen-none, is-one}
pub use Rattle.tcc_pick.proofs.Further.{GoesOn, picked-begins, picked-few, picked-further}
pub use Rattle.tcc_pick.proofs.Picked.{chosen_at, no-words, picks-none, picks-one, leads-to}
pub use Rattle.tcc_pick.proofs.Took.{Same, Takes, took-more, took-none, took-same}
