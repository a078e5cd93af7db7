-- The protocol's machine at the start of RISC-V programs, and what runs from there lead to. The protocol's shape of a machine is its
-- settings.
use Rattle.std.specs.Prelude.{ℕ, List, [], IfSome}
use Rattle.image_load.specs.Start.{Start, first_ram}
use Rattle.rv_code.specs.Machine.{program, start_local}
use Rattle.rules_maps.specs.Nodes.{Event}
use Rattle.rules_program.specs.Program.{Local}
use Rattle.rules_tcc.specs.State.{World, start as protocol_start}
use Rattle.rules_tcc.specs.Step.{History, run}

-- what a core holds at the start: its number, the number of cores, and its entry as the pc
abbrev pub local_at_start : Start → (core : ℕ) → Local
local_at_start s c = start_local s.settings.cores c (s.entry c)

-- the protocol's machine at the start, with all cores at their entries
abbrev pub world_at_start : Start → World
world_at_start s = protocol_start (local_at_start s) (first_ram s)

-- that machine, and no commit
abbrev pub at_start : Start → History
at_start s = record { world = world_at_start s; commits = [] }

-- P of the state that a run from the start leads to
abbrev pub AfterRun : Start → List Event → (History → Type 0) → Type 0
AfterRun s es P = IfSome (run s.settings (program s) (world_at_start s) es) P
