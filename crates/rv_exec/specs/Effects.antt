-- What an instruction of RV32IMA needs of its machine, and the registers, pc and reservation after it.
use Rattle.std.specs.Prelude.{ℕ, Bool, false, ◌+◌, ◌-◌, ◌%◌, ◌^◌, ◌==◌, if◌then◌else◌, List, Option, Some, None}
use Rattle.std.specs.Option.{unwrap_or}
use Rattle.rv_decode.specs.declared.instruction.Inst.{Inst}
use Rattle.rv_decode.specs.declared.instruction.Inst.TheVariants.{Lui, Auipc, Jal, Jalr, Branch, Load, Store, OpImm, Op, Lr, Sc, Amo, Ecall}
use Rattle.rv_decode.specs.declared.instruction.Inst.TheVariants.{Ebreak}
use Rattle.rv_decode.specs.declared.instruction.LoadKind.{LoadKind}
use Rattle.rv_decode.specs.declared.instruction.LoadKind.TheVariants.{Lb, Lh, Lw, Lbu, Lhu}
use Rattle.rv_exec.specs.Operations.{reg_result, imm_result, amo_result, holds, extended}
use Rattle.rv_exec.specs.Words.{displaced}
use Rattle.tcc_base.specs.Bytes.{bytes_of}
use Rattle.tcc_base.specs.declared.access.Size.{Size}
use Rattle.tcc_base.specs.declared.access.Size.TheVariants.{Byte, Half, Word}
use Rattle.rules_program.specs.Program.{Local, Need, Nothing, Loads, Stores, Changes, Prints, Ends, Halts, Traps}
use Rattle.rules_program.specs.Registers.{register, written}

abbrev pub next_pc : ℕ → ℕ
next_pc pc = (pc + 4) % 2 ^ 32

-- where a jump or a branch that is taken goes (2.5 Control Transfer Instructions); None of an instruction that goes on
abbrev pub target_of : Inst → Local → Option ℕ
target_of (Jal rd offset) l = Some (displaced l.pc offset)
target_of (Jalr rd rs1 imm) l = (let sum = displaced (register l.regs rs1) imm in Some (sum - sum % 2))
target_of (Branch cond rs1 rs2 offset) l =
    (if holds cond (register l.regs rs1) (register l.regs rs2) then Some (displaced l.pc offset) else None)
target_of _ l = None

-- a jump to an address that is no multiple of four traps
abbrev pub lands : Option ℕ → Need
lands None = Nothing
lands (Some target) = (if target % 4 == 0 then Nothing else Traps 0)

abbrev pub size_read : LoadKind → Size
size_read Lb = Byte
size_read Lh = Half
size_read Lw = Word
size_read Lbu = Byte
size_read Lhu = Half

-- an access to an address that is no multiple of its size traps
abbrev pub if_aligned : (addr : ℕ) → Size → Need → (cause : ℕ) → Need
if_aligned addr size need cause = (if addr % bytes_of size == 0 then need else Traps cause)

abbrev pub load_need : (addr : ℕ) → Size → Need
load_need addr size = if_aligned addr size (Loads addr size) 4

abbrev pub store_need : (addr : ℕ) → Size → (value : ℕ) → Need
store_need addr size value = if_aligned addr size (Stores addr size (value % 256 ^ bytes_of size)) 6

-- whether an address is the reserved one
abbrev pub is_reserved : Option ℕ → (addr : ℕ) → Bool
is_reserved None addr = false
is_reserved (Some reserved) addr = reserved == addr

-- a store-conditional stores where its address is reserved, and makes no access where it isn't
abbrev pub conditional_need : (reserved : Option ℕ) → (addr value : ℕ) → Need
conditional_need reserved addr value =
    if_aligned addr Word (if is_reserved reserved addr then Stores addr Word (value % 2 ^ 32) else Nothing) 6

-- one word is read, changed and written
abbrev pub change_need : (addr : ℕ) → (changed : ℕ → ℕ) → Need
change_need addr changed = if_aligned addr Word (Changes addr changed) 6

-- an environment call, by x17 and x10: 0 ends the transaction, 1 prints a byte, 93 halts the core
abbrev pub call_need : (x17 x10 : ℕ) → Need
call_need x17 x10 =
    (if x17 == 0 then Ends
    else if x17 == 1 then Prints (x10 % 256)
    else if x17 == 93 then Halts x10
    else Traps 11)

unfoldable pub planned : Inst → Local → Need
planned (Jal rd offset) l = lands (target_of (Jal rd offset) l)
planned (Jalr rd rs1 imm) l = lands (target_of (Jalr rd rs1 imm) l)
planned (Branch cond rs1 rs2 offset) l = lands (target_of (Branch cond rs1 rs2 offset) l)
planned (Load kind rd rs1 imm) l = load_need (displaced (register l.regs rs1) imm) (size_read kind)
planned (Store size rs1 rs2 imm) l = store_need (displaced (register l.regs rs1) imm) size (register l.regs rs2)
planned (Lr rd rs1 order) l = load_need (register l.regs rs1) Word
planned (Sc rd rs1 rs2 order) l = conditional_need l.reserved (register l.regs rs1) (register l.regs rs2)
planned (Amo op rd rs1 rs2 order) l = change_need (register l.regs rs1) (λ old. amo_result op old (register l.regs rs2))
planned Ecall l = call_need (register l.regs 17) (register l.regs 10)
planned Ebreak l = Traps 3
planned _ l = Nothing

-- the registers after an instruction, whose loaded bytes, with zeros above, are there exactly where it loads
unfoldable pub results : Inst → Local → Option ℕ → List ℕ
results (Lui rd imm) l loaded = written l.regs rd imm
results (Auipc rd imm) l loaded = written l.regs rd ((l.pc + imm) % 2 ^ 32)
results (Jal rd offset) l loaded = written l.regs rd (next_pc l.pc)
results (Jalr rd rs1 imm) l loaded = written l.regs rd (next_pc l.pc)
results (Load kind rd rs1 imm) l loaded = written l.regs rd (extended kind (unwrap_or loaded 0))
results (OpImm op rd rs1 imm) l loaded = written l.regs rd (imm_result op (register l.regs rs1) imm)
results (Op op rd rs1 rs2) l loaded = written l.regs rd (reg_result op (register l.regs rs1) (register l.regs rs2))
results (Lr rd rs1 order) l loaded = written l.regs rd (unwrap_or loaded 0)
results (Sc rd rs1 rs2 order) l loaded = written l.regs rd (if is_reserved l.reserved (register l.regs rs1) then 0 else 1)
results (Amo op rd rs1 rs2 order) l loaded = written l.regs rd (unwrap_or loaded 0)
results _ l loaded = l.regs

-- a load-reserved reserves its address, a store-conditional gives the reservation up, and all others leave it
abbrev pub reserved_after : Inst → Local → Option ℕ
reserved_after (Lr rd rs1 order) l = Some (register l.regs rs1)
reserved_after (Sc rd rs1 rs2 order) l = None
reserved_after _ l = l.reserved

unfoldable pub finished : Inst → Local → (loaded : Option ℕ) → Local
finished inst l loaded = record {
  regs = results inst l loaded;
  pc = unwrap_or (target_of inst l) (next_pc l.pc);
  reserved = reserved_after inst l;
}
