-- The codes by which the fields funct3, funct7 and funct5 name an operation, both ways.
use Rattle.std.specs.Prelude.{ℕ, Option, Some, None, ◌==◌, if◌then◌else◌}
use Rattle.tcc_base.specs.declared.access.Size.{Size}
use Rattle.tcc_base.specs.declared.access.Size.TheVariants.{Byte, Half, Word}
use Rattle.rv_decode.specs.declared.instruction.Cond.{Cond}
use Rattle.rv_decode.specs.declared.instruction.Cond.TheVariants.{Beq, Bne, Blt, Bge, Bltu, Bgeu}
use Rattle.rv_decode.specs.declared.instruction.LoadKind.{LoadKind}
use Rattle.rv_decode.specs.declared.instruction.LoadKind.TheVariants.{Lb, Lh, Lw, Lbu, Lhu}
use Rattle.rv_decode.specs.declared.instruction.ImmOp.{ImmOp}
use Rattle.rv_decode.specs.declared.instruction.ImmOp.TheVariants.{Addi, Slti, Sltiu, Xori, Ori, Andi, Slli, Srli, Srai}
use Rattle.rv_decode.specs.declared.instruction.AmoOp.{AmoOp}
use Rattle.rv_decode.specs.declared.instruction.AmoOp.TheVariants.{Amoswap, Amoadd, Amoxor, Amoand, Amoor, Amomin, Amomax, Amominu, Amomaxu}
use Rattle.rv_decode.specs.declared.instruction.RegOp.{RegOp}
use Rattle.rv_decode.specs.declared.instruction.RegOp.TheVariants.{Add, Sub, Sll, Slt, Sltu, Xor, Srl, Sra, Or, And, Mul, Mulh, Mulhsu}
use Rattle.rv_decode.specs.declared.instruction.RegOp.TheVariants.{Mulhu, Div, Divu, Rem, Remu}

abbrev pub cond_code : Cond → ℕ
cond_code Beq = 0b000
cond_code Bne = 0b001
cond_code Blt = 0b100
cond_code Bge = 0b101
cond_code Bltu = 0b110
cond_code Bgeu = 0b111

abbrev pub cond_of : ℕ → Option Cond
cond_of funct3 =
    (if funct3 == 0b000 then Some Beq
    else if funct3 == 0b001 then Some Bne
    else if funct3 == 0b100 then Some Blt
    else if funct3 == 0b101 then Some Bge
    else if funct3 == 0b110 then Some Bltu
    else if funct3 == 0b111 then Some Bgeu
    else None)

abbrev pub load_kind_code : LoadKind → ℕ
load_kind_code Lb = 0b000
load_kind_code Lh = 0b001
load_kind_code Lw = 0b010
load_kind_code Lbu = 0b100
load_kind_code Lhu = 0b101

abbrev pub load_kind_of : ℕ → Option LoadKind
load_kind_of funct3 =
    (if funct3 == 0b000 then Some Lb
    else if funct3 == 0b001 then Some Lh
    else if funct3 == 0b010 then Some Lw
    else if funct3 == 0b100 then Some Lbu
    else if funct3 == 0b101 then Some Lhu
    else None)

abbrev pub size_code : Size → ℕ
size_code Byte = 0b000
size_code Half = 0b001
size_code Word = 0b010

abbrev pub size_of : ℕ → Option Size
size_of funct3 =
    (if funct3 == 0b000 then Some Byte
    else if funct3 == 0b001 then Some Half
    else if funct3 == 0b010 then Some Word
    else None)

-- the operations with an immediate of twelve bits, and the shifts, which have a funct7 too
abbrev pub imm_op_code : ImmOp → ℕ
imm_op_code Addi = 0b000
imm_op_code Slti = 0b010
imm_op_code Sltiu = 0b011
imm_op_code Xori = 0b100
imm_op_code Ori = 0b110
imm_op_code Andi = 0b111
imm_op_code Slli = 0b001
imm_op_code Srli = 0b101
imm_op_code Srai = 0b101

abbrev pub imm_op_of : ℕ → Option ImmOp
imm_op_of funct3 =
    (if funct3 == 0b000 then Some Addi
    else if funct3 == 0b010 then Some Slti
    else if funct3 == 0b011 then Some Sltiu
    else if funct3 == 0b100 then Some Xori
    else if funct3 == 0b110 then Some Ori
    else if funct3 == 0b111 then Some Andi
    else None)

abbrev pub shift_of : ℕ → ℕ → Option ImmOp
shift_of funct3 funct7 =
    (if funct3 == 0b001 then (if funct7 == 0b0000000 then Some Slli else None)
    else if funct3 == 0b101 then
    (if funct7 == 0b0000000 then Some Srli else if funct7 == 0b0100000 then Some Srai else None)
    else None)

abbrev pub reg_op_funct3 : RegOp → ℕ
reg_op_funct3 Add = 0b000
reg_op_funct3 Sub = 0b000
reg_op_funct3 Sll = 0b001
reg_op_funct3 Slt = 0b010
reg_op_funct3 Sltu = 0b011
reg_op_funct3 Xor = 0b100
reg_op_funct3 Srl = 0b101
reg_op_funct3 Sra = 0b101
reg_op_funct3 Or = 0b110
reg_op_funct3 And = 0b111
reg_op_funct3 Mul = 0b000
reg_op_funct3 Mulh = 0b001
reg_op_funct3 Mulhsu = 0b010
reg_op_funct3 Mulhu = 0b011
reg_op_funct3 Div = 0b100
reg_op_funct3 Divu = 0b101
reg_op_funct3 Rem = 0b110
reg_op_funct3 Remu = 0b111

abbrev pub reg_op_funct7 : RegOp → ℕ
reg_op_funct7 Add = 0b0000000
reg_op_funct7 Sub = 0b0100000
reg_op_funct7 Sll = 0b0000000
reg_op_funct7 Slt = 0b0000000
reg_op_funct7 Sltu = 0b0000000
reg_op_funct7 Xor = 0b0000000
reg_op_funct7 Srl = 0b0000000
reg_op_funct7 Sra = 0b0100000
reg_op_funct7 Or = 0b0000000
reg_op_funct7 And = 0b0000000
reg_op_funct7 Mul = 0b0000001
reg_op_funct7 Mulh = 0b0000001
reg_op_funct7 Mulhsu = 0b0000001
reg_op_funct7 Mulhu = 0b0000001
reg_op_funct7 Div = 0b0000001
reg_op_funct7 Divu = 0b0000001
reg_op_funct7 Rem = 0b0000001
reg_op_funct7 Remu = 0b0000001

-- the operations of RV32I that have funct7 zero
abbrev pub base_op_of : ℕ → Option RegOp
base_op_of funct3 =
    (if funct3 == 0b000 then Some Add
    else if funct3 == 0b001 then Some Sll
    else if funct3 == 0b010 then Some Slt
    else if funct3 == 0b011 then Some Sltu
    else if funct3 == 0b100 then Some Xor
    else if funct3 == 0b101 then Some Srl
    else if funct3 == 0b110 then Some Or
    else if funct3 == 0b111 then Some And
    else None)

-- its two others
abbrev pub other_op_of : ℕ → Option RegOp
other_op_of funct3 =
    (if funct3 == 0b000 then Some Sub
    else if funct3 == 0b101 then Some Sra
    else None)

-- those of the extension M
abbrev pub multiply_op_of : ℕ → Option RegOp
multiply_op_of funct3 =
    (if funct3 == 0b000 then Some Mul
    else if funct3 == 0b001 then Some Mulh
    else if funct3 == 0b010 then Some Mulhsu
    else if funct3 == 0b011 then Some Mulhu
    else if funct3 == 0b100 then Some Div
    else if funct3 == 0b101 then Some Divu
    else if funct3 == 0b110 then Some Rem
    else if funct3 == 0b111 then Some Remu
    else None)

abbrev pub reg_op_of : ℕ → ℕ → Option RegOp
reg_op_of funct3 funct7 =
    (if funct7 == 0b0000000 then base_op_of funct3
    else if funct7 == 0b0100000 then other_op_of funct3
    else if funct7 == 0b0000001 then multiply_op_of funct3
    else None)

-- the atomic memory operations
abbrev pub amo_op_code : AmoOp → ℕ
amo_op_code Amoswap = 0b00001
amo_op_code Amoadd = 0b00000
amo_op_code Amoxor = 0b00100
amo_op_code Amoand = 0b01100
amo_op_code Amoor = 0b01000
amo_op_code Amomin = 0b10000
amo_op_code Amomax = 0b10100
amo_op_code Amominu = 0b11000
amo_op_code Amomaxu = 0b11100

abbrev pub amo_op_of : ℕ → Option AmoOp
amo_op_of funct5 =
    (if funct5 == 0b00001 then Some Amoswap
    else if funct5 == 0b00000 then Some Amoadd
    else if funct5 == 0b00100 then Some Amoxor
    else if funct5 == 0b01100 then Some Amoand
    else if funct5 == 0b01000 then Some Amoor
    else if funct5 == 0b10000 then Some Amomin
    else if funct5 == 0b10100 then Some Amomax
    else if funct5 == 0b11000 then Some Amominu
    else if funct5 == 0b11100 then Some Amomaxu
    else None)
