-- What is claimed of the progress of the RISC-V programs that the machine runs: from a start with allowed settings no state is stuck.
use Rattle.std.specs.Prelude.{ℕ, ◌<◌, List, length}
use Rattle.image_load.specs.Start.{Start}
use Rattle.rv_code.specs.Machine.{program}
use Rattle.tcc_base.specs.Settings.{IsAllowed}
use Rattle.theorem_live.specs.Progress.{DoneWhereNoneUseful, EachGoesOn}
use Rattle.rules_maps.specs.Nodes.{Event}
use Rattle.rules_tcc.specs.Picked.{picked}
use Rattle.rules_tcc.specs.Seen.{IsDone}
use Rattle.rules_riscv.specs.Starting.{world_at_start, AfterRun}

-- Where no event is useful after a run the state is done.
abbrev pub RiscvNeverStuck : Type 0
RiscvNeverStuck =
    (s : Start) (es : List Event) → IsAllowed s.settings → AfterRun s es (λ h. DoneWhereNoneUseful s.settings (program s) h.world)

-- For each core that hasn't halted some useful event isn't the delivery of another core's request for a TID, and no Exec of another core
-- without a TID.
abbrev pub RiscvCoresGoOn : Type 0
RiscvCoresGoOn = (s : Start) (es : List Event) → IsAllowed s.settings → AfterRun s es (λ h. EachGoesOn s.settings (program s) h.world)

-- the schedule that a chooser picks from the start
abbrev pub picked_from : Start → List ℕ → List Event
picked_from s rs = picked s.settings (program s) rs (world_at_start s)

-- It has an event for each random word, or ends where all is done.
abbrev pub RiscvPickedEndsDone : Type 0
RiscvPickedEndsDone =
    (s : Start) (rs : List ℕ) → IsAllowed s.settings → length (picked_from s rs) < length rs
    → AfterRun s (picked_from s rs) (λ h. IsDone s.settings h.world)
