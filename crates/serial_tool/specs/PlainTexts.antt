-- The text of the plain machine between two transactions, in rows.
use Rattle.std.specs.Prelude.{ℕ, zero, suc, ◌+◌, ◌*◌, ◌/◌, ◌^◌, ◌<◌, ◌≤◌, ◌==◌, ◌&&◌, ◌≡◌, Bool, true, false, List, [], ◌∷◌, ◌++◌, All}
use Rattle.std.specs.Prelude.{codes, drop}
use Rattle.std.specs.Prelude.{length, slice_index, take, if◌then◌else◌, None}
use Rattle.rules_program.specs.Registers.{register}
use Rattle.reg_checkpoint.specs.Registers.{IsRegisters}
use Rattle.row_text.specs.Rows.{Row, rows_text}
use Rattle.rv_plain.specs.PlainState.{PlainState}
use Rattle.rv_plain.specs.declared.plain.CoreState.{CoreState}
use Rattle.schedule_text.specs.declared.fault.TextFault.{TextFault}
use Rattle.schedule_text.specs.declared.fault.TextFault.TheVariants.{Line, Memory}
use Rattle.tcc_base.specs.Settings.{Settings}
use Rattle.tcc_base.specs.declared.access.CoreEnd.{CoreEnd}
use Rattle.tcc_base.specs.declared.access.CoreEnd.TheVariants.{Run, Halt, Trap}

abbrev pub row : (word numbers : List ℕ) → Row
row word numbers = record { word = word; numbers = numbers }

-- how a core stands: 0 where it runs, 1 where a code halted it, 2 where a trap did
abbrev pub end_kind : CoreEnd → ℕ
end_kind Run = 0
end_kind (Halt code) = 1
end_kind (Trap code) = 2

-- the code with which it ended, 0 where it runs
abbrev pub end_code : CoreEnd → ℕ
end_code Run = 0
end_code (Halt code) = code
end_code (Trap code) = code

-- so many registers, the first of which has this number
unfoldable pub registers : (count first : ℕ) → (regs : List ℕ) → List ℕ
registers zero first regs = []
registers (suc count) first regs = register regs first ∷ registers count (first + 1) regs

-- a core: its number, its pc, how it stands, and x1 to x31
unfoldable pub core_numbers : (core : ℕ) → CoreState → List ℕ
core_numbers core s = core ∷ s.state.pc ∷ end_kind s.ended ∷ end_code s.ended ∷ registers 31 1 s.state.regs

abbrev pub core_row : (core : ℕ) → CoreState → Row
core_row core s = row (codes "core") (core_numbers core s)

-- cores, the first of which has this number
unfoldable pub core_rows : (core : ℕ) → List CoreState → List Row
core_rows core [] = []
core_rows core (s ∷ cores) = core_row core s ∷ core_rows (core + 1) cores

-- each of the words is 0
unfoldable pub all_zero : List ℕ → Bool
all_zero [] = true
all_zero (w ∷ words) = w == 0 && all_zero words

-- a line of memory, if not all its words are 0
unfoldable pub mem_row : (line : ℕ) → (words : List ℕ) → List Row
mem_row line words = if all_zero words then [] else row (codes "mem") (line ∷ words) ∷ []

-- so many lines of eight words, the first of which has this number
unfoldable pub mem_rows : (lines line : ℕ) → (ram : List ℕ) → List Row
mem_rows zero line ram = []
mem_rows (suc lines) line ram = mem_row line (take 8 ram) ++ mem_rows lines (line + 1) (drop 8 ram)

-- all of RAM, and the last row
unfoldable pub ram_rows : (ram : List ℕ) → List Row
ram_rows ram = mem_rows (length ram / 8) 0 ram ++ row (codes "end") [] ∷ []

-- the version, and the TID of the last transaction
abbrev pub head_rows : (last : ℕ) → List Row
head_rows last = row (codes "tcc-plain") (1 ∷ []) ∷ row (codes "last") (last ∷ []) ∷ []

-- the machine whose last transaction had this TID
unfoldable pub plain_rows : PlainState → (last : ℕ) → List Row
plain_rows s last = head_rows last ++ (core_rows 0 s.cores ++ ram_rows s.ram)

-- its text: version, last TID, cores, the lines of memory that aren't all 0 by rising number, and the end
abbrev pub plain_text : PlainState → (last : ℕ) → List ℕ
plain_text s last = rows_text (plain_rows s last)

-- a core between two transactions that has printed nothing
abbrev pub IsFresh : CoreState → Type 0
IsFresh s = (s.state.reserved ≡ None) × (s.console ≡ [])

-- what a text tells of a core: nothing that it printed or reserved
abbrev pub fresh : CoreState → CoreState
fresh s = record {
  state = record { regs = s.state.regs; pc = s.state.pc; reserved = None };
  ended = s.ended;
  console = [];
}

-- the codes that an end may have
abbrev pub EndFits : CoreEnd → Type 0
EndFits Run = Unit {0}
EndFits (Halt code) = code < 2 ^ 32
EndFits (Trap code) = code < 2 ^ 8

-- a core of a machine: each of its words has 32 bits
pub record CoreFits (s : CoreState) : Type 0 where
  pub registers : IsRegisters s.state.regs
  pub words : All (λ v. v < 2 ^ 32) s.state.regs
  pub pc : s.state.pc < 2 ^ 32
  pub code : EndFits s.ended

-- the machines that have a text, and their last TIDs; RAM is a number of whole lines
pub record HasText (s : PlainState) (last : ℕ) : Type 0 where
  pub tid : last < 2 ^ 64
  pub lines : 8 * (length s.ram / 8) ≡ length s.ram
  pub size : length s.ram ≤ 2 ^ 32
  pub words : All (λ w. w < 2 ^ 32) s.ram
  pub few : length s.cores ≤ 64
  pub cores : All CoreFits s.cores

-- an error says this, if it names a line
abbrev pub Refuses : TextFault → Type 0 → Type 0
Refuses (Line k) P = P
Refuses Memory P = Unit {0}

-- these numbers are no core's end, its registers, or all that its row tells
abbrev pub HasNoEnd : (kind code : ℕ) → Type 0
HasNoEnd kind code = (e : CoreEnd) → EndFits e → kind ≡ end_kind e → code ≡ end_code e → ⊥

abbrev pub HasNoRegisters : (numbers : List ℕ) → Type 0
HasNoRegisters numbers = (regs : List ℕ) → All (λ v. v < 2 ^ 32) regs → drop 4 numbers ≡ registers 31 1 regs → ⊥

abbrev pub HasNoCore : (core : ℕ) → (numbers : List ℕ) → Type 0
HasNoCore core numbers = (s : CoreState) → CoreFits s → numbers ≡ core_numbers core s → ⊥

-- the bytes don't begin with the rows of so many cores
abbrev pub HasNoCores : (bytes : List ℕ) → (count : ℕ) → Type 0
HasNoCores bytes count =
    (cores : List CoreState) (rest : List ℕ) → length cores ≡ count → All CoreFits cores
    → bytes ≡ rows_text (core_rows 0 cores) ++ rest → ⊥

-- this follows the rows of so many cores
pub record AreCoresRead (bytes : List ℕ) (count : ℕ) (found : List CoreState) (rest : List ℕ) : Type 0 where
  pub parts : bytes ≡ rows_text (core_rows 0 found) ++ rest
  pub one : (cores : List CoreState) (tail : List ℕ) → length cores ≡ count → All CoreFits cores
      → bytes ≡ rows_text (core_rows 0 cores) ++ tail → rest ≡ tail

-- the bytes don't begin with the first two rows
abbrev pub HasNoHead : (bytes : List ℕ) → Type 0
HasNoHead bytes = (last : ℕ) (rest : List ℕ) → last < 2 ^ 64 → bytes ≡ rows_text (head_rows last) ++ rest → ⊥

-- these numbers, the first of which is a line's, aren't the words of a line
abbrev pub HasNoWords : (numbers : List ℕ) → Type 0
HasNoWords numbers = All (λ w. w < 2 ^ 32) (drop 1 numbers) → all_zero (drop 1 numbers) ≡ false → ⊥

-- nor those of one of so many lines from `next` on
abbrev pub HasNoLine : (lines next : ℕ) → (numbers : List ℕ) → Type 0
HasNoLine lines next numbers = next ≤ slice_index numbers 0 → slice_index numbers 0 < lines → HasNoWords numbers

-- a line from `next` on was put into RAM; the one after it
pub record IsPut (ram new : List ℕ) (next : ℕ) (numbers : List ℕ) (after : ℕ) : Type 0 where
  pub line : ℕ
  pub words : List ℕ
  pub is : numbers ≡ line ∷ words
  pub follows : after ≡ line + 1
  pub late : next ≤ line
  pub there : 8 * line + 8 ≤ length ram
  pub eight : length words ≡ 8
  pub some : all_zero words ≡ false
  pub put : new ≡ take (8 * line) ram ++ (words ++ drop (8 * line + 8) ram)

-- the bytes aren't the last rows of a machine with so many words of RAM
abbrev pub HasNoRam : (bytes : List ℕ) → (count : ℕ) → Type 0
HasNoRam bytes count =
    (ram : List ℕ) → length ram ≡ count → All (λ w. w < 2 ^ 32) ram → bytes ≡ rows_text (ram_rows ram) → ⊥

-- the bytes are the text of no machine with these settings
abbrev pub HasNoMachine : (bytes : List ℕ) → Settings → Type 0
HasNoMachine bytes settings =
    (s : PlainState) (last : ℕ) → HasText s last → length s.cores ≡ settings.cores → 4 * length s.ram ≡ settings.ram
    → bytes ≡ plain_text s last → ⊥
