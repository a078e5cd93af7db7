-- One directory has answered as a rule says, and all others are as before.
use Rattle.std.specs.Prelude.{ℕ, ◌≡◌, false, List, ◌++◌}
use Rattle.tcc_base.specs.Put.{put}
use Rattle.tcc_base.specs.declared.names.NodeId.{NodeId}
use Rattle.tcc_msg.specs.Plain.{sends_of}
use Rattle.tcc_msg.specs.declared.msg.Msg.{Msg}
use Rattle.rules_tcc.specs.DirDeliver.{Answer}
use Rattle.rules_tcc.specs.State.{DirState}
use Rattle.directory.specs.declared.handled.Handled.{Handled}
use Rattle.directory.specs.Gives.{answer_of, acts}
use Rattle.machine_dirs.specs.Bank.{DirsData, dirs_of}

-- what was sent stands behind what was sent before, and the rule's answer for the old state is that of the call, with the new state and
-- what was sent; where the message waits or is dropped all is as before
pub record Acted (dir : ℕ) (old new : DirsData) (before after : List (NodeId × Msg)) (h : Handled) (rule : DirState → Answer) : Type 0 where
  pub sent : List (NodeId × Msg)
  pub behind : after ≡ before ++ sent
  pub answer : (ram : ℕ → ℕ) → rule (dirs_of ram old dir) ≡ answer_of h (dirs_of ram new dir) (sends_of sent)
  pub others : (ram : ℕ → ℕ) → dirs_of ram new ≡ put (dirs_of ram old) dir (dirs_of ram new dir)
  pub still : acts h ≡ false → ((ram : ℕ → ℕ) → dirs_of ram new ≡ dirs_of ram old) × (after ≡ before)
