-- The RISC-V programs that the machine runs stay in these bounds.
use Rattle.std.specs.Prelude.{List}
use Rattle.image_load.specs.Start.{Start}
use Rattle.tcc_base.specs.Settings.{IsAllowed}
use Rattle.rules_maps.specs.Nodes.{Event}
use Rattle.rules_riscv.specs.Starting.{AfterRun}
use Rattle.theorem_bounds.specs.Bounds.{IsBounded}

abbrev pub RiscvRunsAreBounded : Type 0
RiscvRunsAreBounded = (s : Start) (es : List Event) → IsAllowed s.settings → AfterRun s es (IsBounded s.settings es)
