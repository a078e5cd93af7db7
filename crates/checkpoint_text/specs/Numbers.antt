-- Values of the machine as numbers of a row.
use Rattle.std.specs.Prelude.{ℕ, Bool, true, false, List, [], ◌∷◌, ◌++◌, Option, Some, None}
use Rattle.tcc_base.specs.declared.access.Load.{Load}
use Rattle.tcc_base.specs.declared.access.Size.{Size}
use Rattle.tcc_base.specs.declared.access.Size.TheVariants.{Byte, Half, Word}
use Rattle.tcc_base.specs.declared.access.Stored.{Stored}
use Rattle.rules_program.specs.Program.{Local}

abbrev pub flag : Bool → ℕ
flag false = 0
flag true = 1

-- 0 and 0, or 1 and what is there
abbrev pub optional : Option ℕ → List ℕ
optional None = 0 ∷ 0 ∷ []
optional (Some n) = 1 ∷ n ∷ []

-- in bytes
abbrev pub size_number : Size → ℕ
size_number Byte = 1
size_number Half = 2
size_number Word = 4

abbrev pub load_numbers : Load → List ℕ
load_numbers l = l.addr ∷ size_number l.size ∷ l.value ∷ []

abbrev pub stored_numbers : Stored → List ℕ
stored_numbers s = s.addr ∷ size_number s.size ∷ s.value ∷ []

abbrev pub byte_numbers : ℕ → List ℕ
byte_numbers b = b ∷ []

-- pc, reservation and registers
unfoldable pub local_numbers : Local → List ℕ
local_numbers l = l.pc ∷ (optional l.reserved ++ l.regs)
