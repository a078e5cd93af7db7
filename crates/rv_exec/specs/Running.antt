-- The program that RV32IMA is, given what a fetch finds at each pc and which accesses lie in RAM.
use Rattle.std.specs.Prelude.{ℕ, Bool, if◌then◌else◌, Option, Some, None}
use Rattle.rv_decode.specs.Decoding.{decoded}
use Rattle.rv_decode.specs.declared.instruction.Inst.{Inst}
use Rattle.rv_exec.specs.Effects.{planned, finished}
use Rattle.tcc_base.specs.declared.access.Size.{Size}
use Rattle.tcc_base.specs.declared.access.Size.TheVariants.{Word}
use Rattle.rules_program.specs.Program.{Local, Need, Nothing, Loads, Stores, Changes, Prints, Ends, Halts, Traps, Program}

-- an access outside RAM is a trap
abbrev pub bounded : (in_ram : ℕ → Size → Bool) → Need → Need
bounded in_ram Nothing = Nothing
bounded in_ram (Loads addr size) = (if in_ram addr size then Loads addr size else Traps 5)
bounded in_ram (Stores addr size value) = (if in_ram addr size then Stores addr size value else Traps 7)
bounded in_ram (Changes addr changed) = (if in_ram addr Word then Changes addr changed else Traps 7)
bounded in_ram (Prints byte) = Prints byte
bounded in_ram Ends = Ends
bounded in_ram (Halts status) = Halts status
bounded in_ram (Traps cause) = Traps cause

-- what is needed where the fetched word is this instruction or in no row of the table
abbrev pub need_of_inst : (in_ram : ℕ → Size → Bool) → Local → Option Inst → Need
need_of_inst in_ram l None = Traps 2
need_of_inst in_ram l (Some inst) = bounded in_ram (planned inst l)

-- what is needed where the fetch found this word or lies outside all code
abbrev pub need_of_word : (in_ram : ℕ → Size → Bool) → Local → Option ℕ → Need
need_of_word in_ram l None = Traps 1
need_of_word in_ram l (Some w) = need_of_inst in_ram l (decoded w)

abbrev pub after_inst : Local → Option ℕ → Option Inst → Local
after_inst l loaded None = l
after_inst l loaded (Some inst) = finished inst l loaded

abbrev pub after_word : Local → Option ℕ → Option ℕ → Local
after_word l loaded None = l
after_word l loaded (Some w) = after_inst l loaded (decoded w)

unfoldable pub program : (fetch : ℕ → Option ℕ) → (in_ram : ℕ → Size → Bool) → Program
program fetch in_ram = record {
  need = λ l. need_of_word in_ram l (fetch l.pc);
  after = λ l loaded. after_word l loaded (fetch l.pc);
}

-- the program that is this one instruction, whatever the pc
abbrev pub alone : Inst → Program
alone inst = record { need = λ l. Nothing; after = finished inst }
