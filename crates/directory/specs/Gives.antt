-- What a call of a directory did, against what a rule gives for the state before.
use Rattle.std.specs.Prelude.{ℕ, ◌≡◌, Bool, true, false, List, ◌++◌}
use Rattle.tcc_base.specs.declared.names.NodeId.{NodeId}
use Rattle.rules_tcc.specs.State.{DirState}
use Rattle.rules_tcc.specs.Sends.{Sends}
use Rattle.rules_tcc.specs.DirDeliver as rules
use Rattle.tcc_msg.specs.declared.msg.Msg.{Msg}
use Rattle.tcc_msg.specs.Plain.{sends_of}
use Rattle.directory.specs.declared.handled.Handled.{Handled}
use Rattle.directory.specs.declared.handled.Handled.TheVariants.{Handled as Done, Waits, Asked, Dropped}
use Rattle.directory.specs.Data.{DirData, dir_of}

-- the rules' answer of that kind, with the state after it and what is sent
abbrev pub answer_of : Handled → DirState → Sends → rules.Answer
answer_of Done s sends = rules.Takes s sends
answer_of Asked s sends = rules.Asks s sends
answer_of Waits s sends = rules.Waits
answer_of Dropped s sends = rules.Drops

-- the message is consumed, or its line's owner is asked
abbrev pub is_taken : rules.Answer → Bool
is_taken rules.Waits = false
is_taken rules.Drops = true
is_taken (rules.Asks s sends) = true
is_taken (rules.Takes s sends) = true

-- something may have changed
abbrev pub acts : Handled → Bool
acts Done = true
acts Asked = true
acts Waits = false
acts Dropped = false

-- what was sent stands behind what was sent before, and the rule's answer for the old state is that of the call, with the new
-- state and what was sent, whatever stands elsewhere; where the message waits or is dropped all is as before
pub record Gives (old new : DirData) (before after : List (NodeId × Msg)) (h : Handled) (rule : DirState → rules.Answer) : Type 0 where
  pub sent : List (NodeId × Msg)
  pub behind : after ≡ before ++ sent
  pub answer : (elsewhere : ℕ → ℕ) → rule (dir_of elsewhere old) ≡ answer_of h (dir_of elsewhere new) (sends_of sent)
  pub still : acts h ≡ false → (new ≡ old) × (after ≡ before)
