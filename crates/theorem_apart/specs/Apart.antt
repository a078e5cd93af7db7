-- What stays in bounds at one node of a machine whose nodes are kept apart: each knows what it has done itself, and what its links
-- bring. Nothing here speaks of another node's state.
use Rattle.std.specs.Prelude.{ℕ, ◌+◌, ◌^◌, ◌≡◌, ◌<◌, ◌≤◌, true, All, Some}
use Rattle.rules_maps.specs.Lines.{has_mark}
use Rattle.rules_maps.specs.Nodes.{Node, Core, Dir, Vendor}
use Rattle.rules_maps.specs.Shape.{Shape, home, lines}
use Rattle.rules_tcc.specs.Local.{NodeState, AtCore, AtDir, AtVendor, Acted}
use Rattle.rules_tcc.specs.Sends.{Sends}
use Rattle.rules_tcc.specs.State.{CoreState, DirState}
use Rattle.theorem_serial.specs.InMemory.{AccessesInMemory}
use Rattle.theorem_serial.specs.OneCore.{OneCore}
use Rattle.theorem_bounds.specs.Bounds.{CoreInBounds}
use Rattle.rules_apart.specs.Carried.{IsCarried}

-- a core after so many events of its own
pub record CoreApart (sh : Shape) (done core : ℕ) (s : CoreState) : Type 0 where
  -- The machine has it.
  pub exists : core < sh.cores
  -- Its attempt has at most as many instructions as it had events, its TID is one that can be given, and what it holds is of memory.
  pub bounds : CoreInBounds sh done (2 ^ 62) s
  -- Its cache is consistent, and an awaited line has a frame there.
  pub alone : OneCore sh s
  -- What its attempt has loaded and stored lies in memory.
  pub accesses : AccessesInMemory sh s.loads s.stores

-- a directory
pub record DirApart (sh : Shape) (dir : ℕ) (s : DirState) : Type 0 where
  -- The machine has it.
  pub exists : dir < sh.dirs
  -- It serves a TID, and TIDs count from 1.
  pub serves : 1 ≤ s.serving.serving
  -- Each line's owner is a core of the machine.
  pub owners : (l c : ℕ) → s.lines.owner l ≡ Some c → c < sh.cores
  -- A line is marked only where memory has it and it is at home here.
  pub marked : (l : ℕ) → has_mark s.lines l ≡ true → (l < lines sh) × (home sh l ≡ dir)

-- by kind of node; every event of the vendor grants a TID, and it began with 1
abbrev pub NodeInBounds : Shape → (done : ℕ) → Node → NodeState → Type 0
NodeInBounds sh done (Core c) (AtCore s) = CoreApart sh done c s
NodeInBounds sh done (Dir d) (AtDir s) = DirApart sh d s
NodeInBounds sh done Vendor (AtVendor next) = next ≡ done + 1
NodeInBounds sh done n s = ⊥

-- each message that a node sends is one that the link to its destination carries
abbrev pub EachCarried : Shape → Node → Sends → Type 0
EachCarried sh n sends = (dst : Node) → All (IsCarried sh n dst) (sends dst)

-- what an event leaves of a node and sends from it
pub record ActsInBounds (sh : Shape) (done : ℕ) (n : Node) (a : Acted) : Type 0 where
  pub state : NodeInBounds sh done n a.state
  pub sends : EachCarried sh n a.sends
