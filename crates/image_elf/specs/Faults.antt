-- What the program prints of a fault: its number, 1 to 8, and the place that it carries, or 0.
use Rattle.std.specs.Prelude.{ℕ}
use Rattle.image_elf.specs.declared.fault.ElfFault.{ElfFault}
use Rattle.image_elf.specs.declared.fault.ElfFault.TheVariants.{Short, NotElf, NotRv32, Kind, Compressed, Dynamic, BadSegment, Memory}

abbrev pub number_of : ElfFault → ℕ
number_of (Short size) = 1
number_of NotElf = 2
number_of (NotRv32 offset) = 3
number_of Kind = 4
number_of Compressed = 5
number_of Dynamic = 6
number_of (BadSegment index) = 7
number_of Memory = 8

abbrev pub place_of : ElfFault → ℕ
place_of (Short size) = size
place_of NotElf = 0
place_of (NotRv32 offset) = offset
place_of Kind = 0
place_of Compressed = 0
place_of Dynamic = 0
place_of (BadSegment index) = index
place_of Memory = 0
