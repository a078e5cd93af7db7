-- The same of the RISC-V programs that the machine runs, from each start with allowed settings, as one equation.
use Rattle.std.specs.Prelude.{ℕ, ◌≡◌, ◌<◌, List, [], map, length, Some, IfSome, nat_lt, if◌then◌else◌}
use Rattle.image_load.specs.Start.{Start, first_ram}
use Rattle.rv_code.specs.Machine.{program}
use Rattle.rv_plain.specs.Machine.{plain_start, no_core}
use Rattle.rules_riscv.specs.Starting.{local_at_start}
use Rattle.tcc_base.specs.Settings.{IsAllowed}
use Rattle.rules_program.specs.Orders.{order_of_commit}
use Rattle.rules_program.specs.Plain.{Plain, serial}
use Rattle.theorem_serial.specs.Shown.{shown_core}
use Rattle.rules_bus.specs.State.{BusEvent, bus_start}
use Rattle.rules_bus.specs.Step.{BusHistory, bus_run}
use Rattle.rules_bus.specs.Useful.{BusIsDone, bus_picked, bus_useful}
use Rattle.theorem_bus.specs.Laws.{AreNumbered}

-- all cores at their entries, and no commit
abbrev pub bus_at_start : Start → BusHistory
bus_at_start s = record { world = bus_start (local_at_start s) (first_ram s); commits = [] }

-- P of the state that a run from the start leads to
abbrev pub AfterBusRun : Start → List BusEvent → (BusHistory → Type 0) → Type 0
AfterBusRun s es P = IfSome (bus_run s.settings (program s) (bus_at_start s).world es) P

-- what is committed, as a plain machine: memory, and of each core the checkpoint, whether and how it has halted, and what its commits
-- printed
unfoldable pub bus_committed : Start → BusHistory → Plain
bus_committed s h = record {
  ram = h.world.ram;
  cores = λ c. if nat_lt c s.settings.cores then shown_core c (h.world.cores c) h.commits else no_core;
}

-- The commits are a serial execution from the start, and what is committed is the plain machine after them.
unfoldable pub BusSerial : Start → BusHistory → Type 0
BusSerial s h =
    serial s.settings.base (program s) 0 (map order_of_commit h.commits) (plain_start s) ≡ Some (bus_committed s h, h.commits)

abbrev pub BusRunsGiveThePlainMachine : Type 0
BusRunsGiveThePlainMachine = (s : Start) (es : List BusEvent) → IsAllowed s.settings → AfterBusRun s es (BusSerial s)

abbrev pub BusTidsCount : Type 0
BusTidsCount = (s : Start) (es : List BusEvent) → IsAllowed s.settings → AfterBusRun s es (λ h. AreNumbered 1 h.commits)

abbrev pub RiscvBusNeverStuck : Type 0
RiscvBusNeverStuck =
    (s : Start) (es : List BusEvent) → IsAllowed s.settings
    → AfterBusRun s es (λ h. bus_useful s.settings (program s) h.world ≡ [] → BusIsDone s.settings h.world)

-- the schedule that a chooser picks from the start
abbrev pub bus_picked_from : Start → List ℕ → List BusEvent
bus_picked_from s rs = bus_picked s.settings (program s) rs (bus_at_start s)

-- A picked schedule is a run, and has an event for each random word or ends where all is done.
abbrev pub RiscvBusPickedEndsDone : Type 0
RiscvBusPickedEndsDone =
    (s : Start) (rs : List ℕ) → IsAllowed s.settings → length (bus_picked_from s rs) < length rs
    → AfterBusRun s (bus_picked_from s rs) (λ h. BusIsDone s.settings h.world)
