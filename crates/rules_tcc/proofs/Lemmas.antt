-- What other crates may cite: all that rules compute with, what an eviction is, what the vendor is asked and gives, the laws of useful
-- events and of picked schedules, where merged logs lead, and that equal nodes are one.
pub use Rattle.rules_tcc.proofs.Acts.{if-step}
unfoldable pub use Rattle.rules_tcc.proofs.Computed.{computed}
pub use Rattle.rules_tcc.proofs.Evicts.{each-evict, emptied}
pub use Rattle.rules_tcc.proofs.Gifts.{Ask, asking, Asks_tid, Gift, Gives_none, Gives_tid, each-ask, gift, giving, request-bare}
pub use Rattle.rules_tcc.proofs.Gifts.{request-taken}
unfoldable pub use Rattle.rules_tcc.proofs.Gifts.{gift_of, gift_sends, next_after}
pub use Rattle.rules_tcc.proofs.LocalStep.{begins}
pub use Rattle.rules_tcc.proofs.Mailed.{node_eq-eq}
pub use Rattle.rules_tcc.proofs.Merged.{merged-runs}
pub use Rattle.rules_tcc.proofs.Picked.{PicksRun, picked-is_run, picked-runs, in-get}
pub use Rattle.rules_tcc.proofs.Useful.{useful-holds}
