-- The program that a machine runs from a start, and what it begins with: RAM's words, and each core's registers and pc.
use Rattle.std.specs.Prelude.{ℕ, Bool, List, ◌+◌, nat_le, ◌&&◌, None}
use Rattle.image_load.specs.Start.{Start}
use Rattle.rv_exec.specs.Running as rv32ima
use Rattle.tcc_base.specs.Bytes.{bytes_of}
use Rattle.tcc_base.specs.Settings.{Settings}
use Rattle.tcc_base.specs.declared.access.Size.{Size}
use Rattle.rules_program.specs.Program.{Local, Program}
use Rattle.rules_program.specs.Registers.{zeroed, written}

-- all bytes of an access lie in RAM
unfoldable pub in_ram : Settings → ℕ → Size → Bool
in_ram s addr size = nat_le s.base addr && nat_le (addr + bytes_of size) (s.base + s.ram)

unfoldable pub program : Start → Program
program s = rv32ima.program s.fetch (in_ram s.settings)

-- a core's registers and pc at the start: x10 is its number, x11 the number of cores
unfoldable pub start_regs : (cores core : ℕ) → List ℕ
start_regs cores core = written (written zeroed 10 core) 11 cores

abbrev pub start_local : (cores core entry : ℕ) → Local
start_local cores core entry = record { regs = start_regs cores core; pc = entry; reserved = None }
