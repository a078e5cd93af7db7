-- By the kind of event.
use Rattle.std.proofs.Common.{inl, inr, sym}
use Rattle.std.specs.Prelude.{option_map}
use Rattle.tcc_msg.specs.Plain.{event_of}
use Rattle.run_follow.specs.Following.{may_come}
use Rattle.run_follow.proofs.following.in_turn.Goals as goal

pub returns-in-Some : goal.returns-in-Some
unfolding may_come
returns-in-Some c = λ i. may_come (option_map (λ t. t.0) (sym c.in-Some.is i)) (event_of (sym c.in-Exec.is i))

pub returns-in-None : goal.returns-in-None
unfolding may_come
returns-in-None c = λ i. may_come (option_map (λ t. t.0) (sym c.in-None.is i)) (event_of (sym c.in-Exec.is i))

pub returns-in-Evict : goal.returns-in-Evict
unfolding may_come
returns-in-Evict c = elim c.in-Evict.is [
  | inl w ↦ λ i. may_come (option_map (λ t. t.0) c.args.turn) (event_of (sym w.3 i))
  | inr w ↦ λ i. may_come (option_map (λ t. t.0) c.args.turn) (event_of (sym w.1 i))
]
