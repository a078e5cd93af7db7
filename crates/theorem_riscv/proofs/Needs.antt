-- What an instruction of the machine needs is aligned, fits and lies in RAM, or is a trap.
use Rattle.std.specs.Prelude.{ℕ, ◌%◌, ◌^◌, ◌≡◌, ◌<◌, ◌==◌, Bool, true, false, if◌then◌else◌, List, Option, Some, None}
use Rattle.std.proofs.Common.{arith, refl}
use Rattle.std.proofs.lemmas.Bool.Decides.{nat_tests}
use Rattle.rv_decode.specs.Decoding.{decoded}
use Rattle.rv_decode.specs.declared.instruction.Inst.{Inst}
use Rattle.rv_decode.specs.declared.instruction.Inst.TheVariants.{Lui, Auipc, Jal, Jalr, Branch, Load, Store, OpImm, Op, Fence, Lr, Sc, Amo}
use Rattle.rv_decode.specs.declared.instruction.Inst.TheVariants.{Ecall, Ebreak}
use Rattle.rv_exec.specs.Effects.{planned, target_of, lands, load_need, store_need, is_reserved, conditional_need, change_need, call_need}
use Rattle.rv_exec.specs.Effects.{size_read}
use Rattle.rv_exec.specs.Operations.{amo_result}
use Rattle.rv_exec.specs.Running.{bounded, need_of_inst, need_of_word, program as rv32ima_program}
use Rattle.rv_exec.specs.Words.{displaced}
use Rattle.rv_code.specs.Machine.{in_ram, program}
use Rattle.image_load.specs.Start.{Start}
use Rattle.tcc_base.specs.Bytes.{bytes_of}
use Rattle.tcc_base.specs.Settings.{Settings}
use Rattle.tcc_base.specs.declared.access.Size.{Size}
use Rattle.tcc_base.specs.declared.access.Size.TheVariants.{Byte, Half, Word}
use Rattle.rules_program.specs.Program.{Local, Need, Nothing, Loads, Stores, Changes, Prints, Ends, Halts, Traps}
use Rattle.rules_program.specs.Registers.{register}
use Rattle.rules_program.specs.Ram.{word_of}
use Rattle.theorem_attempt.specs.Follows.{NeedFits, Fits}
use Rattle.theorem_serial.specs.InMemory.{NeedInMemory, StaysInMemory, WordInMemory}

-- aligned and fitting

low-bytes : (value : ℕ) (size : Size) → value % 256 ^ bytes_of size < 256 ^ bytes_of size
low-bytes value Byte = omega arith
low-bytes value Half = omega arith
low-bytes value Word = omega arith

load-fits : (addr : ℕ) (size : Size) → NeedFits (load_need addr size)
load-fits addr size = go (addr % bytes_of size == 0) refl
  where
    go : (b : Bool) → (addr % bytes_of size == 0) ≡ b → NeedFits (if b then Loads addr size else Traps 4)
    go true e = grind (arith, nat_tests)
    go false e = tt

store-fits : (addr : ℕ) (size : Size) (value : ℕ) → NeedFits (store_need addr size value)
store-fits addr size value = go (addr % bytes_of size == 0) refl
  where
    go : (b : Bool) → (addr % bytes_of size == 0) ≡ b → NeedFits (if b then Stores addr size (value % 256 ^ bytes_of size) else Traps 6)
    go true e = (grind (arith, nat_tests), low-bytes value size)
    go false e = tt

lands-fits : (target : Option ℕ) → NeedFits (lands target)
lands-fits None = tt
lands-fits (Some a) = go (a % 4 == 0)
  where
    go : (b : Bool) → NeedFits (if b then Nothing else Traps 0)
    go true = tt
    go false = tt

call-fits : (x17 x10 : ℕ) → NeedFits (call_need x17 x10)
call-fits x17 x10 = go (x17 == 0) (x17 == 1) (x17 == 93)
  where
    go : (a b c : Bool) → NeedFits (if a then Ends else if b then Prints (x10 % 256) else if c then Halts x10 else Traps 11)
    go true b c = tt
    go false true c = tt
    go false false true = tt
    go false false false = tt

conditional-fits : (reserved : Option ℕ) (addr value : ℕ) → NeedFits (conditional_need reserved addr value)
conditional-fits reserved addr value = go (addr % 4 == 0) refl (is_reserved reserved addr)
  where
    go : (b : Bool) → (addr % 4 == 0) ≡ b → (c : Bool)
        → NeedFits (if b then (if c then Stores addr Word (value % 2 ^ 32) else Nothing) else Traps 6)
    go true e true = (grind (arith, nat_tests), low-bytes value Word)
    go true e false = tt
    go false e c = tt

change-fits : (addr : ℕ) (changed : ℕ → ℕ) → NeedFits (change_need addr changed)
change-fits addr changed = go (addr % 4 == 0) refl
  where
    go : (b : Bool) → (addr % 4 == 0) ≡ b → NeedFits (if b then Changes addr changed else Traps 6)
    go true e = grind (arith, nat_tests)
    go false e = tt

planned-fits : (inst : Inst) (l : Local) → NeedFits (planned inst l)
unfolding planned
planned-fits (Lui rd imm) l = tt
planned-fits (Auipc rd imm) l = tt
planned-fits (Jal rd offset) l = lands-fits (target_of (Jal rd offset) l)
planned-fits (Jalr rd rs1 imm) l = lands-fits (target_of (Jalr rd rs1 imm) l)
planned-fits (Branch cond rs1 rs2 offset) l = lands-fits (target_of (Branch cond rs1 rs2 offset) l)
planned-fits (Load kind rd rs1 imm) l = load-fits (displaced (register l.regs rs1) imm) (size_read kind)
planned-fits (Store size rs1 rs2 imm) l = store-fits (displaced (register l.regs rs1) imm) size (register l.regs rs2)
planned-fits (OpImm op rd rs1 imm) l = tt
planned-fits (Op op rd rs1 rs2) l = tt
planned-fits (Fence hints) l = tt
planned-fits (Lr rd rs1 order) l = load-fits (register l.regs rs1) Word
planned-fits (Sc rd rs1 rs2 order) l = conditional-fits l.reserved (register l.regs rs1) (register l.regs rs2)
planned-fits (Amo op rd rs1 rs2 order) l = change-fits (register l.regs rs1) (λ old. amo_result op old (register l.regs rs2))
planned-fits Ecall l = call-fits (register l.regs 17) (register l.regs 10)
planned-fits Ebreak l = tt

bounded-fits : (inside : ℕ → Size → Bool) (n : Need) → NeedFits n → NeedFits (bounded inside n)
bounded-fits inside Nothing f = tt
bounded-fits inside (Loads addr size) f = go (inside addr size)
  where
    go : (b : Bool) → NeedFits (if b then Loads addr size else Traps 5)
    go true = f
    go false = tt
bounded-fits inside (Stores addr size value) f = go (inside addr size)
  where
    go : (b : Bool) → NeedFits (if b then Stores addr size value else Traps 7)
    go true = f
    go false = tt
bounded-fits inside (Changes addr changed) f = go (inside addr Word)
  where
    go : (b : Bool) → NeedFits (if b then Changes addr changed else Traps 7)
    go true = f
    go false = tt
bounded-fits inside (Prints byte) f = tt
bounded-fits inside Ends f = tt
bounded-fits inside (Halts code) f = tt
bounded-fits inside (Traps code) f = tt

pub needs-fit : (s : Start) → Fits (program s)
unfolding program rv32ima_program
needs-fit s l = at (s.fetch l.pc)
  where
    by_inst : (i : Option Inst) → NeedFits (need_of_inst (in_ram s.settings) l i)
    by_inst None = tt
    by_inst (Some i) = bounded-fits (in_ram s.settings) (planned i l) (planned-fits i l)

    at : (w : Option ℕ) → NeedFits (need_of_word (in_ram s.settings) l w)
    at None = tt
    at (Some w) = by_inst (decoded w)

-- in RAM

word-inside : (s : Settings) (addr : ℕ) (size : Size) → s.ram % 32 ≡ 0 → in_ram s addr size ≡ true → WordInMemory s (word_of s.base addr)
unfolding in_ram word_of
word-inside s addr Byte r e = grind (arith, nat_tests)
word-inside s addr Half r e = grind (arith, nat_tests)
word-inside s addr Word r e = grind (arith, nat_tests)

bounded-inside : (s : Settings) (n : Need) → s.ram % 32 ≡ 0 → NeedInMemory s (bounded (in_ram s) n)
bounded-inside s Nothing r = tt
bounded-inside s (Loads addr size) r = go (in_ram s addr size) refl
  where
    go : (b : Bool) → in_ram s addr size ≡ b → NeedInMemory s (if b then Loads addr size else Traps 5)
    go true e = word-inside s addr size r e
    go false e = tt
bounded-inside s (Stores addr size value) r = go (in_ram s addr size) refl
  where
    go : (b : Bool) → in_ram s addr size ≡ b → NeedInMemory s (if b then Stores addr size value else Traps 7)
    go true e = word-inside s addr size r e
    go false e = tt
bounded-inside s (Changes addr changed) r = go (in_ram s addr Word) refl
  where
    go : (b : Bool) → in_ram s addr Word ≡ b → NeedInMemory s (if b then Changes addr changed else Traps 7)
    go true e = word-inside s addr Word r e
    go false e = tt
bounded-inside s (Prints byte) r = tt
bounded-inside s Ends r = tt
bounded-inside s (Halts code) r = tt
bounded-inside s (Traps code) r = tt

pub needs-inside : (s : Start) → s.settings.ram % 32 ≡ 0 → StaysInMemory s.settings (program s)
unfolding program rv32ima_program
needs-inside s r l = at (s.fetch l.pc)
  where
    by_inst : (i : Option Inst) → NeedInMemory s.settings (need_of_inst (in_ram s.settings) l i)
    by_inst None = tt
    by_inst (Some i) = bounded-inside s.settings (planned i l) r

    at : (w : Option ℕ) → NeedInMemory s.settings (need_of_word (in_ram s.settings) l w)
    at None = tt
    at (Some w) = by_inst (decoded w)
