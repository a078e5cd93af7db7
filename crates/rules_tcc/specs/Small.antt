-- A few decoded instructions as a program of its own, for the schedules that are worked by hand.
use Rattle.std.specs.Prelude.{ℕ, ◌+◌, ◌-◌, ◌/◌, ◌%◌, ◌^◌, List, slice_get, slice_set, Option, Some, None, unwrap_or, ◌==◌, if◌then◌else◌}
use Rattle.tcc_base.specs.declared.access.Size.TheVariants.{Word}
use Rattle.rules_program.specs.Program.{Local, Need, Nothing, Loads, Stores, Ends, Halts, Traps, Program}
use Rattle.rules_program.specs.Registers.{zeroed, register, written}

pub data Inst : Type 0 where
  Lui : (rd value : ℕ) → Inst  -- load upper immediate
  Lw : (rd base offset : ℕ) → Inst  -- load word
  Sw : (from base offset : ℕ) → Inst  -- store word
  Bne : (left right offset : ℕ) → Inst  -- branch where they differ
  Ebreak : Inst
  Ecall : Inst

abbrev pub image_base : ℕ
image_base = 2147483648

-- the instruction at pc; the lists' items are the images' instructions by their words
unfoldable pub at_pc : List (Option Inst) → ℕ → Option Inst
at_pc code pc = unwrap_or (slice_get code ((pc - image_base) / 4)) None

unfoldable pub address : Local → (base offset : ℕ) → ℕ
address s base offset = (register s.regs base + offset) % 2 ^ 32

unfoldable pub call_need : ℕ → (code : ℕ) → Need
call_need n code = if n == 0 then Ends else if n == 93 then Halts code else Traps 11

abbrev pub small_need : Local → Option Inst → Need
small_need s None = Traps 1
small_need s (Some (Lui rd value)) = Nothing
small_need s (Some (Lw rd base offset)) = Loads (address s base offset) Word
small_need s (Some (Sw from base offset)) = Stores (address s base offset) Word (register s.regs from)
small_need s (Some (Bne left right offset)) = Nothing
small_need s (Some Ebreak) = Traps 3
small_need s (Some Ecall) = call_need (register s.regs 17) (register s.regs 10)

abbrev pub goes_to : Local → ℕ → Local
goes_to s pc = record s { pc = pc }

abbrev pub small_after : Local → (given : Option ℕ) → Option Inst → Local
small_after s given (Some (Lui rd value)) = record s { regs = written s.regs rd value; pc = s.pc + 4 }
small_after s given (Some (Lw rd base offset)) = record s { regs = written s.regs rd (unwrap_or given 0); pc = s.pc + 4 }
small_after s given (Some (Bne left right offset)) =
    goes_to s (if register s.regs left == register s.regs right then s.pc + 4 else s.pc + offset)
small_after s given _ = goes_to s (s.pc + 4)

unfoldable pub small : List (Option Inst) → Program
small code = record {
  need = λ s. small_need s (at_pc code s.pc);
  after = λ s given. small_after s given (at_pc code s.pc);
}

-- core c of n begins at pc with x10 = c and x11 = n
unfoldable pub image_entry : (core cores pc : ℕ) → Local
image_entry c n pc = record { regs = slice_set (slice_set zeroed 10 c) 11 n; pc = pc; reserved = None }
