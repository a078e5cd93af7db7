-- The instruction of a word, as a function of the word's fields: the table read from right to left.
use Rattle.std.specs.Prelude.{ℕ, pos, Option, Some, None, ◌-◌, ◌==◌, if◌then◌else◌}
use Rattle.std.specs.Option.{option_map}
use Rattle.rv_decode.specs.declared.instruction.Inst.{Inst}
use Rattle.rv_decode.specs.declared.instruction.Inst.TheVariants.{Lui, Auipc, Jal, Jalr, Branch, Load, Store, OpImm, Op, Fence, Lr, Sc, Amo}
use Rattle.rv_decode.specs.declared.instruction.Inst.TheVariants.{Ecall, Ebreak}
use Rattle.rv_decode.specs.Codes.{cond_of, load_kind_of, size_of, imm_op_of, shift_of, reg_op_of, amo_op_of}
use Rattle.rv_decode.specs.Formats.{opcode_of, rd_of, funct3_of, rs1_of, rs2_of, funct7_of, funct5_of, order_of, imm_i, imm_s, imm_b, imm_u}
use Rattle.rv_decode.specs.Formats.{imm_j}

abbrev pub jalr_inst : (w funct3 rd rs1 : ℕ) → Option Inst
jalr_inst w funct3 rd rs1 = (if funct3 == 0b000 then Some (Jalr rd rs1 (imm_i w)) else None)

abbrev pub branch_inst : (w funct3 rs1 rs2 : ℕ) → Option Inst
branch_inst w funct3 rs1 rs2 = option_map (λ cond. Branch cond rs1 rs2 (imm_b w)) (cond_of funct3)

abbrev pub load_inst : (w funct3 rd rs1 : ℕ) → Option Inst
load_inst w funct3 rd rs1 = option_map (λ kind. Load kind rd rs1 (imm_i w)) (load_kind_of funct3)

abbrev pub store_inst : (w funct3 rs1 rs2 : ℕ) → Option Inst
store_inst w funct3 rs1 rs2 = option_map (λ size. Store size rs1 rs2 (imm_s w)) (size_of funct3)

abbrev pub op_inst : (funct3 funct7 rd rs1 rs2 : ℕ) → Option Inst
op_inst funct3 funct7 rd rs1 rs2 = option_map (λ op. Op op rd rs1 rs2) (reg_op_of funct3 funct7)

-- all other bits of a FENCE are free
abbrev pub fence_inst : (w funct3 : ℕ) → Option Inst
fence_inst w funct3 = (if funct3 == 0b000 then Some (Fence (w - 0b0001111)) else None)

-- an operation with a register and an immediate: a shift, or one with an immediate of twelve bits
abbrev pub imm_inst : (w funct3 funct7 rd rs1 rs2 : ℕ) → Option Inst
imm_inst w funct3 funct7 rd rs1 rs2 =
    (if funct3 == 0b001 then option_map (λ op. OpImm op rd rs1 (pos rs2)) (shift_of funct3 funct7)
    else if funct3 == 0b101 then option_map (λ op. OpImm op rd rs1 (pos rs2)) (shift_of funct3 funct7)
    else option_map (λ op. OpImm op rd rs1 (imm_i w)) (imm_op_of funct3))

-- an atomic access to a word; the field rs2 of LR.W is zero
abbrev pub lr_inst : (order rd rs1 rs2 : ℕ) → Option Inst
lr_inst order rd rs1 rs2 = (if rs2 == 0 then Some (Lr rd rs1 order) else None)

abbrev pub word_atomic_inst : (funct5 order rd rs1 rs2 : ℕ) → Option Inst
word_atomic_inst funct5 order rd rs1 rs2 =
    (if funct5 == 0b00010 then lr_inst order rd rs1 rs2
    else if funct5 == 0b00011 then Some (Sc rd rs1 rs2 order)
    else option_map (λ op. Amo op rd rs1 rs2 order) (amo_op_of funct5))

abbrev pub atomic_inst : (funct3 funct5 order rd rs1 rs2 : ℕ) → Option Inst
atomic_inst funct3 funct5 order rd rs1 rs2 = (if funct3 == 0b010 then word_atomic_inst funct5 order rd rs1 rs2 else None)

-- the two instructions that are one word each
abbrev pub system_inst : ℕ → Option Inst
system_inst w = (if w == 0x0000_0073 then Some Ecall else if w == 0x0010_0073 then Some Ebreak else None)

unfoldable pub inst_of : (w opcode funct3 funct7 rd rs1 rs2 : ℕ) → Option Inst
inst_of w opcode funct3 funct7 rd rs1 rs2 =
    (if opcode == 0b0110111 then Some (Lui rd (imm_u w))
    else if opcode == 0b0010111 then Some (Auipc rd (imm_u w))
    else if opcode == 0b1101111 then Some (Jal rd (imm_j w))
    else if opcode == 0b1100111 then jalr_inst w funct3 rd rs1
    else if opcode == 0b1100011 then branch_inst w funct3 rs1 rs2
    else if opcode == 0b0000011 then load_inst w funct3 rd rs1
    else if opcode == 0b0100011 then store_inst w funct3 rs1 rs2
    else if opcode == 0b0010011 then imm_inst w funct3 funct7 rd rs1 rs2
    else if opcode == 0b0110011 then op_inst funct3 funct7 rd rs1 rs2
    else if opcode == 0b0001111 then fence_inst w funct3
    else if opcode == 0b0101111 then atomic_inst funct3 (funct5_of w) (order_of w) rd rs1 rs2
    else if opcode == 0b1110011 then system_inst w
    else None)

-- the word's instruction; None where it is in no row
unfoldable pub decoded : ℕ → Option Inst
decoded w = inst_of w (opcode_of w) (funct3_of w) (funct7_of w) (rd_of w) (rs1_of w) (rs2_of w)
