-- The instruction table of RV32IMA: which word is which instruction.
-- The sections are those of the RISC-V Unprivileged ISA, whose "RV32/64G Instruction Set Listings" give the same encodings.
use Rattle.std.specs.Prelude.{ℕ, ℤ, pos, neg_ℤ, ◌+◌, ◌^◌, ◌%◌, ◌<◌, ◌≤ℤ◌, ◌≡◌, unsigned_abs}
use Rattle.tcc_base.specs.declared.access.Size.TheVariants.{Byte, Half, Word}
use Rattle.rv_decode.specs.declared.instruction.Cond.TheVariants.{Beq, Bne, Blt, Bge, Bltu, Bgeu}
use Rattle.rv_decode.specs.declared.instruction.LoadKind.TheVariants.{Lb, Lh, Lw, Lbu, Lhu}
use Rattle.rv_decode.specs.declared.instruction.ImmOp.{ImmOp}
use Rattle.rv_decode.specs.declared.instruction.ImmOp.TheVariants.{Addi, Slti, Sltiu, Xori, Ori, Andi, Slli, Srli, Srai}
use Rattle.rv_decode.specs.declared.instruction.AmoOp.TheVariants.{Amoswap, Amoadd, Amoxor, Amoand, Amoor, Amomin, Amomax, Amominu, Amomaxu}
use Rattle.rv_decode.specs.declared.instruction.RegOp.TheVariants.{Add, Sub, Sll, Slt, Sltu, Xor, Srl, Sra, Or, And, Mul, Mulh, Mulhsu}
use Rattle.rv_decode.specs.declared.instruction.RegOp.TheVariants.{Mulhu, Div, Divu, Rem, Remu}
use Rattle.rv_decode.specs.declared.instruction.Inst.{Inst}
use Rattle.rv_decode.specs.declared.instruction.Inst.TheVariants.{Lui, Auipc, Jal, Jalr, Branch, Load, Store, OpImm, Op, Fence, Lr, Sc, Amo}
use Rattle.rv_decode.specs.declared.instruction.Inst.TheVariants.{Ecall, Ebreak}
use Rattle.rv_decode.specs.Bits.{bits}
use Rattle.rv_decode.specs.Formats.{r_type, a_type, i_type, s_type, b_type, u_type, j_type}

-- the table: one line for each row
unfoldable pub encoding : Inst → ℕ
-- 2.4.1 Integer Register-Immediate Instructions
encoding (Lui rd imm) = u_type 0b0110111 rd imm
encoding (Auipc rd imm) = u_type 0b0010111 rd imm
-- 2.5.1 Unconditional Jumps
encoding (Jal rd offset) = j_type 0b1101111 rd offset
encoding (Jalr rd rs1 imm) = i_type 0b1100111 0b000 rd rs1 imm
-- 2.5.2 Conditional Branches
encoding (Branch Beq rs1 rs2 offset) = b_type 0b1100011 0b000 rs1 rs2 offset
encoding (Branch Bne rs1 rs2 offset) = b_type 0b1100011 0b001 rs1 rs2 offset
encoding (Branch Blt rs1 rs2 offset) = b_type 0b1100011 0b100 rs1 rs2 offset
encoding (Branch Bge rs1 rs2 offset) = b_type 0b1100011 0b101 rs1 rs2 offset
encoding (Branch Bltu rs1 rs2 offset) = b_type 0b1100011 0b110 rs1 rs2 offset
encoding (Branch Bgeu rs1 rs2 offset) = b_type 0b1100011 0b111 rs1 rs2 offset
-- 2.6 Load and Store Instructions
encoding (Load Lb rd rs1 imm) = i_type 0b0000011 0b000 rd rs1 imm
encoding (Load Lh rd rs1 imm) = i_type 0b0000011 0b001 rd rs1 imm
encoding (Load Lw rd rs1 imm) = i_type 0b0000011 0b010 rd rs1 imm
encoding (Load Lbu rd rs1 imm) = i_type 0b0000011 0b100 rd rs1 imm
encoding (Load Lhu rd rs1 imm) = i_type 0b0000011 0b101 rd rs1 imm
encoding (Store Byte rs1 rs2 imm) = s_type 0b0100011 0b000 rs1 rs2 imm
encoding (Store Half rs1 rs2 imm) = s_type 0b0100011 0b001 rs1 rs2 imm
encoding (Store Word rs1 rs2 imm) = s_type 0b0100011 0b010 rs1 rs2 imm
-- 2.4.1 Integer Register-Immediate Instructions; a shift's amount stands in the place of rs2
encoding (OpImm Addi rd rs1 imm) = i_type 0b0010011 0b000 rd rs1 imm
encoding (OpImm Slti rd rs1 imm) = i_type 0b0010011 0b010 rd rs1 imm
encoding (OpImm Sltiu rd rs1 imm) = i_type 0b0010011 0b011 rd rs1 imm
encoding (OpImm Xori rd rs1 imm) = i_type 0b0010011 0b100 rd rs1 imm
encoding (OpImm Ori rd rs1 imm) = i_type 0b0010011 0b110 rd rs1 imm
encoding (OpImm Andi rd rs1 imm) = i_type 0b0010011 0b111 rd rs1 imm
encoding (OpImm Slli rd rs1 imm) = r_type 0b0010011 0b001 0b0000000 rd rs1 (unsigned_abs imm)
encoding (OpImm Srli rd rs1 imm) = r_type 0b0010011 0b101 0b0000000 rd rs1 (unsigned_abs imm)
encoding (OpImm Srai rd rs1 imm) = r_type 0b0010011 0b101 0b0100000 rd rs1 (unsigned_abs imm)
-- 2.4.2 Integer Register-Register Operations
encoding (Op Add rd rs1 rs2) = r_type 0b0110011 0b000 0b0000000 rd rs1 rs2
encoding (Op Sub rd rs1 rs2) = r_type 0b0110011 0b000 0b0100000 rd rs1 rs2
encoding (Op Sll rd rs1 rs2) = r_type 0b0110011 0b001 0b0000000 rd rs1 rs2
encoding (Op Slt rd rs1 rs2) = r_type 0b0110011 0b010 0b0000000 rd rs1 rs2
encoding (Op Sltu rd rs1 rs2) = r_type 0b0110011 0b011 0b0000000 rd rs1 rs2
encoding (Op Xor rd rs1 rs2) = r_type 0b0110011 0b100 0b0000000 rd rs1 rs2
encoding (Op Srl rd rs1 rs2) = r_type 0b0110011 0b101 0b0000000 rd rs1 rs2
encoding (Op Sra rd rs1 rs2) = r_type 0b0110011 0b101 0b0100000 rd rs1 rs2
encoding (Op Or rd rs1 rs2) = r_type 0b0110011 0b110 0b0000000 rd rs1 rs2
encoding (Op And rd rs1 rs2) = r_type 0b0110011 0b111 0b0000000 rd rs1 rs2
-- 2.7 Memory Ordering Instructions
encoding (Fence hints) = hints + 0b0001111
-- 2.8 Environment Call and Breakpoints
encoding Ecall = 0x0000_0073
encoding Ebreak = 0x0010_0073
-- "M" extension, Multiplication Operations
encoding (Op Mul rd rs1 rs2) = r_type 0b0110011 0b000 0b0000001 rd rs1 rs2
encoding (Op Mulh rd rs1 rs2) = r_type 0b0110011 0b001 0b0000001 rd rs1 rs2
encoding (Op Mulhsu rd rs1 rs2) = r_type 0b0110011 0b010 0b0000001 rd rs1 rs2
encoding (Op Mulhu rd rs1 rs2) = r_type 0b0110011 0b011 0b0000001 rd rs1 rs2
-- "M" extension, Division Operations
encoding (Op Div rd rs1 rs2) = r_type 0b0110011 0b100 0b0000001 rd rs1 rs2
encoding (Op Divu rd rs1 rs2) = r_type 0b0110011 0b101 0b0000001 rd rs1 rs2
encoding (Op Rem rd rs1 rs2) = r_type 0b0110011 0b110 0b0000001 rd rs1 rs2
encoding (Op Remu rd rs1 rs2) = r_type 0b0110011 0b111 0b0000001 rd rs1 rs2
-- "A" extension, Load-Reserved/Store-Conditional Instructions
encoding (Lr rd rs1 order) = a_type 0b00010 order rd rs1 0b00000
encoding (Sc rd rs1 rs2 order) = a_type 0b00011 order rd rs1 rs2
-- "A" extension, Atomic Memory Operations
encoding (Amo Amoswap rd rs1 rs2 order) = a_type 0b00001 order rd rs1 rs2
encoding (Amo Amoadd rd rs1 rs2 order) = a_type 0b00000 order rd rs1 rs2
encoding (Amo Amoxor rd rs1 rs2 order) = a_type 0b00100 order rd rs1 rs2
encoding (Amo Amoand rd rs1 rs2 order) = a_type 0b01100 order rd rs1 rs2
encoding (Amo Amoor rd rs1 rs2 order) = a_type 0b01000 order rd rs1 rs2
encoding (Amo Amomin rd rs1 rs2 order) = a_type 0b10000 order rd rs1 rs2
encoding (Amo Amomax rd rs1 rs2 order) = a_type 0b10100 order rd rs1 rs2
encoding (Amo Amominu rd rs1 rs2 order) = a_type 0b11000 order rd rs1 rs2
encoding (Amo Amomaxu rd rs1 rs2 order) = a_type 0b11100 order rd rs1 rs2

abbrev pub IsWithin : ℤ → ℤ → ℤ → Type 0
IsWithin low high n = (low ≤ℤ n) × (n ≤ℤ high)

abbrev pub IsEven : ℤ → Type 0
IsEven n = unsigned_abs n % 2 ≡ 0

-- the immediates of the formats I and S, and the amount of a shift
abbrev pub IsImmediate : ℤ → Type 0
IsImmediate = IsWithin (neg_ℤ (pos 2048)) (pos 2047)

abbrev pub IsShiftAmount : ℤ → Type 0
IsShiftAmount = IsWithin (pos 0) (pos 31)

abbrev pub IsBranchOffset : ℤ → Type 0
IsBranchOffset n = IsWithin (neg_ℤ (pos 4096)) (pos 4094) n × IsEven n

abbrev pub IsJumpOffset : ℤ → Type 0
IsJumpOffset n = IsWithin (neg_ℤ (pos 1048576)) (pos 1048574) n × IsEven n

abbrev pub IsOperand : ImmOp → ℤ → Type 0
IsOperand Addi = IsImmediate
IsOperand Slti = IsImmediate
IsOperand Sltiu = IsImmediate
IsOperand Xori = IsImmediate
IsOperand Ori = IsImmediate
IsOperand Andi = IsImmediate
IsOperand Slli = IsShiftAmount
IsOperand Srli = IsShiftAmount
IsOperand Srai = IsShiftAmount

-- the immediate is in the range of its row, and acquire and release are one bit each
abbrev pub IsInRange : Inst → Type 0
IsInRange (Lui rd imm) = imm % 2 ^ 12 ≡ 0
IsInRange (Auipc rd imm) = imm % 2 ^ 12 ≡ 0
IsInRange (Jal rd offset) = IsJumpOffset offset
IsInRange (Jalr rd rs1 imm) = IsImmediate imm
IsInRange (Branch cond rs1 rs2 offset) = IsBranchOffset offset
IsInRange (Load kind rd rs1 imm) = IsImmediate imm
IsInRange (Store size rs1 rs2 imm) = IsImmediate imm
IsInRange (OpImm op rd rs1 imm) = IsOperand op imm
IsInRange (Op op rd rs1 rs2) = Unit {0}
IsInRange (Fence hints) = (bits hints 6 0 ≡ 0) × (bits hints 14 12 ≡ 0)
IsInRange (Lr rd rs1 order) = order < 4
IsInRange (Sc rd rs1 rs2 order) = order < 4
IsInRange (Amo op rd rs1 rs2 order) = order < 4
IsInRange Ecall = Unit {0}
IsInRange Ebreak = Unit {0}

-- there are 32 registers, and a word has 32 bits
abbrev pub HasRegisters : Inst → Type 0
HasRegisters (Lui rd imm) = (rd < 32) × (imm < 2 ^ 32)
HasRegisters (Auipc rd imm) = (rd < 32) × (imm < 2 ^ 32)
HasRegisters (Jal rd offset) = rd < 32
HasRegisters (Jalr rd rs1 imm) = (rd < 32) × (rs1 < 32)
HasRegisters (Branch cond rs1 rs2 offset) = (rs1 < 32) × (rs2 < 32)
HasRegisters (Load kind rd rs1 imm) = (rd < 32) × (rs1 < 32)
HasRegisters (Store size rs1 rs2 imm) = (rs1 < 32) × (rs2 < 32)
HasRegisters (OpImm op rd rs1 imm) = (rd < 32) × (rs1 < 32)
HasRegisters (Op op rd rs1 rs2) = (rd < 32) × (rs1 < 32) × (rs2 < 32)
HasRegisters (Fence hints) = hints < 2 ^ 32
HasRegisters (Lr rd rs1 order) = (rd < 32) × (rs1 < 32)
HasRegisters (Sc rd rs1 rs2 order) = (rd < 32) × (rs1 < 32) × (rs2 < 32)
HasRegisters (Amo op rd rs1 rs2 order) = (rd < 32) × (rs1 < 32) × (rs2 < 32)
HasRegisters Ecall = Unit {0}
HasRegisters Ebreak = Unit {0}

-- the word is this instruction
pub record Encodes (word : ℕ) (inst : Inst) : Type 0 where
  pub registers : HasRegisters inst
  pub range : IsInRange inst
  pub row : word ≡ encoding inst
