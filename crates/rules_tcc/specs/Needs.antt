-- Programs that are lists of what their instructions need, one list for each core.
use Rattle.std.specs.Prelude.{ℕ, ◌+◌, ◌*◌, ◌/◌, ◌%◌, List, [], ◌∷◌, slice_index_or, Option, Some, None}
use Rattle.tcc_base.specs.declared.access.Size.TheVariants.{Byte, Half, Word}
use Rattle.rules_program.specs.Program.{Local, Need, Loads, Stores, Changes, Traps, Program}

abbrev pub Codes : Type 0
Codes = List (List Need)

abbrev pub ram_base : ℕ
ram_base = 4096

-- the address of byte k of a word
abbrev pub at : (word k : ℕ) → ℕ
at w k = ram_base + 4 * w + k

-- load and store a word, a byte, two bytes; add to a word
abbrev pub lw : (word : ℕ) → Need
lw w = Loads (at w 0) Word

abbrev pub lb : (word k : ℕ) → Need
lb w k = Loads (at w k) Byte

abbrev pub sw : (word value : ℕ) → Need
sw w value = Stores (at w 0) Word value

abbrev pub sb : (word k value : ℕ) → Need
sb w k value = Stores (at w k) Byte value

abbrev pub sh : (word k value : ℕ) → Need
sh w k value = Stores (at w k) Half value

abbrev pub add : (word value : ℕ) → Need
add w value = Changes (at w 0) (λ x. x + value)

-- core c begins at 16 * c; behind the end of its list it traps
unfoldable pub need_at : Codes → (pc : ℕ) → Need
need_at codes pc = slice_index_or (slice_index_or codes (pc / 16) []) (pc % 16) (Traps 1)

-- the registers are the values that were loaded, the last one first
unfoldable pub needs_after : Local → Option ℕ → Local
needs_after s None = record s { pc = s.pc + 1 }
needs_after s (Some x) = record s { pc = s.pc + 1; regs = x ∷ s.regs }

unfoldable pub needs : Codes → Program
needs codes = record { need = λ s. need_at codes s.pc; after = needs_after }

unfoldable pub entry : (core : ℕ) → Local
entry c = record { regs = []; pc = 16 * c; reserved = None }
