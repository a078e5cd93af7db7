-- The table's rows by their codes, for all operations of a kind at once.
use Rattle.std.proofs.Common.{◌≡◌, ℕ, ℤ, refl}
use Rattle.tcc_base.specs.declared.access.Size.{Size}
use Rattle.tcc_base.specs.declared.access.Size.TheVariants.{Byte, Half, Word}
use Rattle.rv_decode.specs.declared.instruction.Cond.{Cond}
use Rattle.rv_decode.specs.declared.instruction.Cond.TheVariants.{Beq, Bne, Blt, Bge, Bltu, Bgeu}
use Rattle.rv_decode.specs.declared.instruction.LoadKind.{LoadKind}
use Rattle.rv_decode.specs.declared.instruction.LoadKind.TheVariants.{Lb, Lh, Lw, Lbu, Lhu}
use Rattle.rv_decode.specs.declared.instruction.AmoOp.{AmoOp}
use Rattle.rv_decode.specs.declared.instruction.AmoOp.TheVariants.{Amoswap, Amoadd, Amoxor, Amoand, Amoor, Amomin, Amomax, Amominu, Amomaxu}
use Rattle.rv_decode.specs.declared.instruction.RegOp.{RegOp}
use Rattle.rv_decode.specs.declared.instruction.RegOp.TheVariants.{Add, Sub, Sll, Slt, Sltu, Xor, Srl, Sra, Or, And, Mul, Mulh, Mulhsu}
use Rattle.rv_decode.specs.declared.instruction.RegOp.TheVariants.{Mulhu, Div, Divu, Rem, Remu}
use Rattle.rv_decode.specs.declared.instruction.Inst.TheVariants.{Branch, Load, Store, Op, Amo}
use Rattle.rv_decode.specs.Codes.{cond_code, load_kind_code, size_code, reg_op_funct3, reg_op_funct7, amo_op_code}
use Rattle.rv_decode.specs.Formats.{r_type, a_type, i_type, s_type, b_type}
use Rattle.rv_decode.specs.Table.{encoding}

pub encoding-Branch : (cond : Cond) (rs1 rs2 : ℕ) (offset : ℤ)
    → encoding (Branch cond rs1 rs2 offset) ≡ b_type 0b1100011 (cond_code cond) rs1 rs2 offset
unfolding encoding
encoding-Branch Beq rs1 rs2 offset = refl
encoding-Branch Bne rs1 rs2 offset = refl
encoding-Branch Blt rs1 rs2 offset = refl
encoding-Branch Bge rs1 rs2 offset = refl
encoding-Branch Bltu rs1 rs2 offset = refl
encoding-Branch Bgeu rs1 rs2 offset = refl

pub encoding-Load : (kind : LoadKind) (rd rs1 : ℕ) (imm : ℤ)
    → encoding (Load kind rd rs1 imm) ≡ i_type 0b0000011 (load_kind_code kind) rd rs1 imm
unfolding encoding
encoding-Load Lb rd rs1 imm = refl
encoding-Load Lh rd rs1 imm = refl
encoding-Load Lw rd rs1 imm = refl
encoding-Load Lbu rd rs1 imm = refl
encoding-Load Lhu rd rs1 imm = refl

pub encoding-Store : (size : Size) (rs1 rs2 : ℕ) (imm : ℤ)
    → encoding (Store size rs1 rs2 imm) ≡ s_type 0b0100011 (size_code size) rs1 rs2 imm
unfolding encoding
encoding-Store Byte rs1 rs2 imm = refl
encoding-Store Half rs1 rs2 imm = refl
encoding-Store Word rs1 rs2 imm = refl

pub encoding-Op : (op : RegOp) (rd rs1 rs2 : ℕ)
    → encoding (Op op rd rs1 rs2) ≡ r_type 0b0110011 (reg_op_funct3 op) (reg_op_funct7 op) rd rs1 rs2
unfolding encoding
encoding-Op Add rd rs1 rs2 = refl
encoding-Op Sub rd rs1 rs2 = refl
encoding-Op Sll rd rs1 rs2 = refl
encoding-Op Slt rd rs1 rs2 = refl
encoding-Op Sltu rd rs1 rs2 = refl
encoding-Op Xor rd rs1 rs2 = refl
encoding-Op Srl rd rs1 rs2 = refl
encoding-Op Sra rd rs1 rs2 = refl
encoding-Op Or rd rs1 rs2 = refl
encoding-Op And rd rs1 rs2 = refl
encoding-Op Mul rd rs1 rs2 = refl
encoding-Op Mulh rd rs1 rs2 = refl
encoding-Op Mulhsu rd rs1 rs2 = refl
encoding-Op Mulhu rd rs1 rs2 = refl
encoding-Op Div rd rs1 rs2 = refl
encoding-Op Divu rd rs1 rs2 = refl
encoding-Op Rem rd rs1 rs2 = refl
encoding-Op Remu rd rs1 rs2 = refl

pub encoding-Amo : (op : AmoOp) (rd rs1 rs2 order : ℕ) → encoding (Amo op rd rs1 rs2 order) ≡ a_type (amo_op_code op) order rd rs1 rs2
unfolding encoding
encoding-Amo Amoswap rd rs1 rs2 order = refl
encoding-Amo Amoadd rd rs1 rs2 order = refl
encoding-Amo Amoxor rd rs1 rs2 order = refl
encoding-Amo Amoand rd rs1 rs2 order = refl
encoding-Amo Amoor rd rs1 rs2 order = refl
encoding-Amo Amomin rd rs1 rs2 order = refl
encoding-Amo Amomax rd rs1 rs2 order = refl
encoding-Amo Amominu rd rs1 rs2 order = refl
encoding-Amo Amomaxu rd rs1 rs2 order = refl

pub ruleset rows = (encoding-Branch, encoding-Load, encoding-Store, encoding-Op, encoding-Amo)
