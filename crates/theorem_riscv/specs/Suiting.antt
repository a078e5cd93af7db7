-- What is claimed of the RISC-V programs that the machine runs: they suit the protocol, and so their runs are serial.
use Rattle.std.specs.Prelude.{List}
use Rattle.image_load.specs.Start.{Start, first_ram}
use Rattle.rv_code.specs.Machine.{program}
use Rattle.tcc_base.specs.Settings.{IsAllowed}
use Rattle.rules_maps.specs.Nodes.{Event}
use Rattle.rules_riscv.specs.Starting.{local_at_start, AfterRun}
use Rattle.theorem_serial.specs.Theorem.{Suits, IsSerialExecution}

abbrev pub RiscvProgramsSuit : Type 0
RiscvProgramsSuit = (s : Start) → IsAllowed s.settings → Suits s.settings (program s) (first_ram s)

abbrev pub RiscvRunsAreSerial : Type 0
RiscvRunsAreSerial =
    (s : Start) (es : List Event) → IsAllowed s.settings
    → AfterRun s es (IsSerialExecution s.settings (program s) (local_at_start s) (first_ram s))
