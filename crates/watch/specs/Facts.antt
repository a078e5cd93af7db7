-- What an event did, one fact each.
use Rattle.std.specs.Prelude.{ℕ}
use Rattle.tcc_base.specs.declared.access.Size.{Size}
use Rattle.rules_maps.specs.Nodes.{Node, Msg}
use Rattle.rules_tcc.specs.State.{Phase}

-- what an instruction did that was finished
pub data Done : Type 0 where
  Plainly : Done  -- no access to RAM
  Loaded : (addr : ℕ) → (size : Size) → (value : ℕ) → Done
  Stored : (addr : ℕ) → (size : Size) → (value : ℕ) → Done
  Changed : (addr : ℕ) → (size : Size) → (old new : ℕ) → Done  -- an atomic memory operation
  Printed : (byte : ℕ) → Done
  Ended : Done
  HaltedWith : (code : ℕ) → Done
  TrappedWith : (cause : ℕ) → Done

-- A mask says which words of a line are meant. `lost` is how many instructions of the attempt were undone.
pub data Fact : Type 0 where
  Did : (core pc : ℕ) → Done → Fact
  Missed : (core pc addr line : ℕ) → Fact  -- the line was asked for; the instruction isn't finished
  Overflowed : (core pc addr line : ℕ) → Fact  -- no way is left for the line: the core asks to go alone; the instruction isn't finished
  Evicted : (core line dirty modified : ℕ) → Fact
  Took : Msg → Fact
  Dropped : Msg → Fact
  AskedOwner : Msg → Fact  -- the line's owner was asked, and the message stays in flight
  Violated : (core by tid line words lost : ℕ) → (phase : Phase) → Fact
  GaveUp : (tid core : ℕ) → Fact
  Committed : (tid core n : ℕ) → Fact
  CameTo : (core : ℕ) → Phase → Fact
  Serves : (dir tid : ℕ) → Fact
  Sent : (src dst : Node) → (seq : ℕ) → Msg → Fact
