-- The RISC-V machines are equipped for their programs, and so no state of them is stuck.
use Rattle.image_load.specs.Start.{Start, first_ram}
use Rattle.rv_code.specs.Machine.{program}
use Rattle.tcc_base.specs.Settings.{IsAllowed}
use Rattle.base_lemmas.proofs.Lemmas.{power-positive}
use Rattle.theorem_live.specs.Progress.{IsEquipped}
use Rattle.theorem_live.proofs.Lemmas.{no_state_is_stuck, each_core_goes_on, picked_ends_done}
use Rattle.theorem_riscv.specs.Going.{RiscvNeverStuck, RiscvCoresGoOn, RiscvPickedEndsDone}
use Rattle.rules_riscv.specs.Starting.{local_at_start}
use Rattle.theorem_riscv.proofs.Needs.{needs-inside}

pub equipped : (s : Start) → IsAllowed s.settings → IsEquipped s.settings (program s)
equipped s k = let (cores, dirs, sets, ways, ram, base) = k in record {
  dirs = dirs.0;
  sets = power-positive s.settings.sets (sets.0);
  ways = ways.0;
  inside = needs-inside s (ram.2);
}

pub riscv_never_stuck : RiscvNeverStuck
riscv_never_stuck s es k = no_state_is_stuck s.settings (program s) (local_at_start s) (first_ram s) es (equipped s k)

pub riscv_cores_go_on : RiscvCoresGoOn
riscv_cores_go_on s es k = each_core_goes_on s.settings (program s) (local_at_start s) (first_ram s) es (equipped s k)

pub riscv_picked_ends_done : RiscvPickedEndsDone
riscv_picked_ends_done s rs k l = picked_ends_done s.settings (program s) (local_at_start s) (first_ram s) rs (equipped s k) l
