-- The laws of one node: it starts in bounds, and each of its events keeps it there, whatever the other nodes do.
use Rattle.std.specs.Prelude.{ℕ, ◌+◌, ◌≡◌, ◌<◌, ◌≤◌, true, Option, IfSome}
use Rattle.image_load.specs.Start.{Start}
use Rattle.rv_code.specs.Machine.{program}
use Rattle.rules_riscv.specs.Starting.{world_at_start}
use Rattle.tcc_base.specs.Limits.{run_limit}
use Rattle.tcc_base.specs.Settings.{IsAllowed}
use Rattle.rules_program.specs.Program.{Local, Program}
use Rattle.rules_maps.specs.Nodes.{Node, Event, Exec, Evict, Deliver, Msg}
use Rattle.rules_maps.specs.Shape.{Shape}
use Rattle.rules_tcc.specs.Local.{NodeState, at_node, state_at, act}
use Rattle.rules_tcc.specs.State.{start}
use Rattle.rules_tcc.specs.Step.{is_node, names_nodes}
use Rattle.theorem_serial.specs.InMemory.{StaysInMemory}
use Rattle.rules_apart.specs.Carried.{IsCarried}
use Rattle.theorem_apart.specs.Apart.{NodeInBounds, ActsInBounds}

-- the message that an event delivers is one that its link carries
abbrev pub BringsCarried : Shape → Event → Option Msg → Type 0
BringsCarried sh (Deliver src dst k) m = IfSome m (IsCarried sh src dst)
BringsCarried sh (Exec c) m = Unit {0}
BringsCarried sh (Evict c x y) m = Unit {0}

-- Before its first event each node of the machine is in bounds.
abbrev pub NodesStartInBounds : Type 0
NodesStartInBounds =
    (sh : Shape) (entries : ℕ → Local) (ram : ℕ → ℕ) (n : Node) → is_node sh n ≡ true → NodeInBounds sh 0 n (state_at (start entries ram) n)

-- An event of the node n, the one after `done` others, leaves it in bounds, and each message that it sends is one that its link
-- carries; of a program with accesses in memory alone.
abbrev pub StaysInBounds : Shape → Program → Type 0
StaysInBounds sh p = (done : ℕ) (n : Node) (s : NodeState) (e : Event) (m : Option Msg) → done < run_limit → at_node e ≡ n
    → names_nodes sh e ≡ true → NodeInBounds sh done n s → BringsCarried sh e m → IfSome (act sh p s e m) (ActsInBounds sh (done + 1) n)

abbrev pub NodesStayInBounds : Type 0
NodesStayInBounds = (sh : Shape) (p : Program) → 1 ≤ sh.dirs → StaysInMemory sh p → StaysInBounds sh p

-- So it is of the RISC-V programs that the machine runs.
abbrev pub RiscvNodesStartInBounds : Type 0
RiscvNodesStartInBounds = (s : Start) (n : Node) → is_node s.settings n ≡ true → NodeInBounds s.settings 0 n (state_at (world_at_start s) n)

abbrev pub RiscvNodesStayInBounds : Type 0
RiscvNodesStayInBounds = (s : Start) → IsAllowed s.settings → StaysInBounds s.settings (program s)
