-- How many bytes a load or store acts on (RISC-V Unprivileged ISA, 2.6).
use Rattle.std.specs.Prelude.{ℕ}
use Rattle.tcc_base.specs.declared.access.Size.{Size}
use Rattle.tcc_base.specs.declared.access.Size.TheVariants.{Byte, Half, Word}

abbrev pub bytes_of : Size → ℕ
bytes_of Byte = 1
bytes_of Half = 2
bytes_of Word = 4
