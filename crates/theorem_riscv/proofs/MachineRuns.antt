-- The programs suit, and so the theorem of the protocol's rules holds of their runs.
use Rattle.std.specs.Prelude.{◌<◌, ◌/◌, ◌%◌, ◌^◌, Bool, true, false, if◌then◌else◌, nat_lt}
use Rattle.std.proofs.Common.{arith}
use Rattle.image_load.specs.Start.{Start, first_ram}
use Rattle.rv_code.specs.Machine.{program}
use Rattle.theorem_attempt.specs.Follows.{IsSmall}
use Rattle.theorem_serial.proofs.Lemmas.{runs_are_serial}
use Rattle.theorem_riscv.specs.Suiting.{RiscvProgramsSuit, RiscvRunsAreSerial}
use Rattle.rules_riscv.specs.Starting.{local_at_start}
use Rattle.theorem_riscv.proofs.Needs.{needs-fit, needs-inside}

-- RAM begins with words of 32 bits, and past its end stand zeros
first_ram-small : (s : Start) → IsSmall (first_ram s)
unfolding first_ram
first_ram-small s w = go (nat_lt w (s.settings.ram / 4))
  where
    go : (b : Bool) → (if b then s.word w % 2 ^ 32 else 0) < 2 ^ 32
    go true = omega arith
    go false = omega arith

pub riscv_programs_suit : RiscvProgramsSuit
riscv_programs_suit s k = let (cores, dirs, sets, ways, ram, base) = k in record {
  dirs = dirs.0;
  fits = needs-fit s;
  inside = needs-inside s (ram.2);
  small = first_ram-small s;
}

pub riscv_runs_are_serial : RiscvRunsAreSerial
riscv_runs_are_serial s es k =
    runs_are_serial s.settings (program s) (local_at_start s) (first_ram s) es (riscv_programs_suit s k)
