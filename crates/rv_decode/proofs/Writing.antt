-- The table and the function that reads a word's fields say the same: an instruction's word is decoded to it.
use Rattle.std.proofs.Common.{◌≡◌, ◌<◌, ◌-◌, lit<, unsigned_abs, ◌+◌, ◌*◌, ◌%◌, ◌^◌, ℕ, ℤ, pos, negsuc, Some, refl, ap, ◌∙◌, arith}
use Rattle.std.proofs.lemmas.Bool.Decides.{nat_tests}
use Rattle.std.proofs.lemmas.Int.{ints}
use Rattle.tcc_base.specs.declared.access.Size.{Size}
use Rattle.tcc_base.specs.declared.access.Size.TheVariants.{Byte, Half, Word}
use Rattle.rv_decode.specs.declared.instruction.Cond.{Cond}
use Rattle.rv_decode.specs.declared.instruction.Cond.TheVariants.{Beq, Bne, Blt, Bge, Bltu, Bgeu}
use Rattle.rv_decode.specs.declared.instruction.LoadKind.{LoadKind}
use Rattle.rv_decode.specs.declared.instruction.LoadKind.TheVariants.{Lb, Lh, Lw, Lbu, Lhu}
use Rattle.rv_decode.specs.declared.instruction.ImmOp.TheVariants.{Addi, Slti, Sltiu, Xori, Ori, Andi, Slli, Srli, Srai}
use Rattle.rv_decode.specs.declared.instruction.AmoOp.{AmoOp}
use Rattle.rv_decode.specs.declared.instruction.AmoOp.TheVariants.{Amoswap, Amoadd, Amoxor, Amoand, Amoor, Amomin, Amomax, Amominu, Amomaxu}
use Rattle.rv_decode.specs.declared.instruction.RegOp.{RegOp}
use Rattle.rv_decode.specs.declared.instruction.RegOp.TheVariants.{Add, Sub, Sll, Slt, Sltu, Xor, Srl, Sra, Or, And, Mul, Mulh, Mulhsu}
use Rattle.rv_decode.specs.declared.instruction.RegOp.TheVariants.{Mulhu, Div, Divu, Rem, Remu}
use Rattle.rv_decode.specs.declared.instruction.Inst.{Inst}
use Rattle.rv_decode.specs.declared.instruction.Inst.TheVariants.{Lui, Auipc, Jal, Jalr, Branch, Load, Store, OpImm, Op, Fence, Lr, Sc, Amo}
use Rattle.rv_decode.specs.declared.instruction.Inst.TheVariants.{Ecall, Ebreak}
use Rattle.rv_decode.proofs.Rows.{encoding-Branch, encoding-Load, encoding-Store, encoding-Op, encoding-Amo}
use Rattle.rv_decode.specs.Bits.{bits, signed, pattern}
use Rattle.rv_decode.specs.Codes.{cond_code, load_kind_code, size_code, reg_op_funct3, reg_op_funct7, amo_op_code}
use Rattle.rv_decode.specs.Decoding.{decoded, inst_of, word_atomic_inst}
use Rattle.rv_decode.specs.Formats.{opcode_of, rd_of, funct3_of, rs1_of, rs2_of, funct7_of, funct5_of, order_of, imm_i, imm_s, imm_b, imm_u}
use Rattle.rv_decode.specs.Formats.{imm_j, r_type, a_type, i_type, s_type, b_type, u_type, j_type}
use Rattle.rv_decode.specs.Table.{encoding, Encodes, IsImmediate, IsShiftAmount, IsBranchOffset, IsJumpOffset}

-- two's complement, there and back
pub signed-pattern_12 : (n : ℤ) → IsImmediate n → signed 12 (pattern 12 n) ≡ n
signed-pattern_12 (pos k) h = grind (arith, nat_tests)
signed-pattern_12 (negsuc k) h = grind (arith, nat_tests)

pub signed-pattern_13 : (n : ℤ) → IsBranchOffset n → signed 13 (pattern 13 n) ≡ n
signed-pattern_13 (pos k) h = grind (arith, nat_tests)
signed-pattern_13 (negsuc k) h = grind (arith, nat_tests)

pub signed-pattern_21 : (n : ℤ) → IsJumpOffset n → signed 21 (pattern 21 n) ≡ n
signed-pattern_21 (pos k) h = grind (arith, nat_tests)
signed-pattern_21 (negsuc k) h = grind (arith, nat_tests)

-- the fields of a word of each format
pub decoded-r_type : (w op f3 f7 rd rs1 rs2 : ℕ) → w ≡ r_type op f3 f7 rd rs1 rs2 →
    op < 2 ^ 7 → f3 < 2 ^ 3 → f7 < 2 ^ 7 → rd < 32 → rs1 < 32 → rs2 < 32 →
    decoded w ≡ inst_of w op f3 f7 rd rs1 rs2
unfolding decoded
decoded-r_type w op f3 f7 rd rs1 rs2 e a b c d f g =
    let e1 : opcode_of w ≡ op = omega arith in
    let e2 : funct3_of w ≡ f3 = omega arith in
    let e3 : funct7_of w ≡ f7 = omega arith in
    let e4 : rd_of w ≡ rd = omega arith in
    let e5 : rs1_of w ≡ rs1 = omega arith in
    let e6 : rs2_of w ≡ rs2 = omega arith in
    cc

pub decoded-i_type : (w op f3 rd rs1 : ℕ) (imm : ℤ) → w ≡ i_type op f3 rd rs1 imm →
    op < 2 ^ 7 → f3 < 2 ^ 3 → rd < 32 → rs1 < 32 → pattern 12 imm < 2 ^ 12 →
    decoded w ≡ inst_of w op f3 (funct7_of w) rd rs1 (rs2_of w)
unfolding decoded
decoded-i_type w op f3 rd rs1 imm e a b c d f =
    let e1 : opcode_of w ≡ op = omega arith in
    let e2 : funct3_of w ≡ f3 = omega arith in
    let e3 : rd_of w ≡ rd = omega arith in
    let e4 : rs1_of w ≡ rs1 = omega arith in
    cc

pub decoded-s_type : (w op f3 rs1 rs2 : ℕ) (imm : ℤ) → w ≡ s_type op f3 rs1 rs2 imm →
    op < 2 ^ 7 → f3 < 2 ^ 3 → rs1 < 32 → rs2 < 32 → pattern 12 imm < 2 ^ 12 →
    decoded w ≡ inst_of w op f3 (funct7_of w) (rd_of w) rs1 rs2
unfolding decoded
decoded-s_type w op f3 rs1 rs2 imm e a b c d f =
    let e1 : opcode_of w ≡ op = omega arith in
    let e2 : funct3_of w ≡ f3 = omega arith in
    let e3 : rs1_of w ≡ rs1 = omega arith in
    let e4 : rs2_of w ≡ rs2 = omega arith in
    cc

pub decoded-b_type : (w op f3 rs1 rs2 : ℕ) (offset : ℤ) → w ≡ b_type op f3 rs1 rs2 offset →
    op < 2 ^ 7 → f3 < 2 ^ 3 → rs1 < 32 → rs2 < 32 → pattern 13 offset < 2 ^ 13 →
    decoded w ≡ inst_of w op f3 (funct7_of w) (rd_of w) rs1 rs2
unfolding decoded
decoded-b_type w op f3 rs1 rs2 offset e a b c d f =
    let e1 : opcode_of w ≡ op = omega arith in
    let e2 : funct3_of w ≡ f3 = omega arith in
    let e3 : rs1_of w ≡ rs1 = omega arith in
    let e4 : rs2_of w ≡ rs2 = omega arith in
    cc

pub decoded-u_type : (w op rd imm : ℕ) → w ≡ u_type op rd imm →
    op < 2 ^ 7 → rd < 32 → imm % 2 ^ 12 ≡ 0 →
    decoded w ≡ inst_of w op (funct3_of w) (funct7_of w) rd (rs1_of w) (rs2_of w)
unfolding decoded
decoded-u_type w op rd imm e a b c =
    let e1 : opcode_of w ≡ op = omega arith in
    let e2 : rd_of w ≡ rd = omega arith in
    cc

pub decoded-j_type : (w op rd : ℕ) (offset : ℤ) → w ≡ j_type op rd offset →
    op < 2 ^ 7 → rd < 32 → pattern 21 offset < 2 ^ 21 →
    decoded w ≡ inst_of w op (funct3_of w) (funct7_of w) rd (rs1_of w) (rs2_of w)
unfolding decoded
decoded-j_type w op rd offset e a b c =
    let e1 : opcode_of w ≡ op = omega arith in
    let e2 : rd_of w ≡ rd = omega arith in
    cc

-- the immediate of a word of each format
pub pattern_12_below : (n : ℤ) → IsImmediate n → pattern 12 n < 2 ^ 12
pattern_12_below (pos k) h = omega (arith, ints)
pattern_12_below (negsuc k) h = omega (arith, ints)

pub pattern_13_below : (n : ℤ) → IsBranchOffset n → pattern 13 n < 2 ^ 13
pattern_13_below (pos k) h = omega (arith, ints)
pattern_13_below (negsuc k) h = omega (arith, ints)

pub pattern_21_below : (n : ℤ) → IsJumpOffset n → pattern 21 n < 2 ^ 21
pattern_21_below (pos k) h = omega (arith, ints)
pattern_21_below (negsuc k) h = omega (arith, ints)

pub pattern_13_even : (n : ℤ) → IsBranchOffset n → pattern 13 n % 2 ≡ 0
pattern_13_even (pos k) h = omega (arith, ints)
pattern_13_even (negsuc k) h = omega (arith, ints)

pub pattern_21_even : (n : ℤ) → IsJumpOffset n → pattern 21 n % 2 ≡ 0
pattern_21_even (pos k) h = omega (arith, ints)
pattern_21_even (negsuc k) h = omega (arith, ints)

pub imm_i-i_type : (w op f3 rd rs1 : ℕ) (imm : ℤ) → w ≡ i_type op f3 rd rs1 imm →
    op < 2 ^ 7 → f3 < 2 ^ 3 → rd < 32 → rs1 < 32 → IsImmediate imm → imm_i w ≡ imm
imm_i-i_type w op f3 rd rs1 imm e a b c d h =
    let below : pattern 12 imm < 2 ^ 12 = pattern_12_below imm h in
    let same : bits w 31 20 ≡ pattern 12 imm = omega arith in
    ap (signed 12) same ∙ signed-pattern_12 imm h

pub imm_s-s_type : (w op f3 rs1 rs2 : ℕ) (imm : ℤ) → w ≡ s_type op f3 rs1 rs2 imm →
    op < 2 ^ 7 → f3 < 2 ^ 3 → rs1 < 32 → rs2 < 32 → IsImmediate imm → imm_s w ≡ imm
imm_s-s_type w op f3 rs1 rs2 imm e a b c d h =
    let below : pattern 12 imm < 2 ^ 12 = pattern_12_below imm h in
    let same : bits w 31 25 * 2 ^ 5 + bits w 11 7 ≡ pattern 12 imm = omega arith in
    ap (signed 12) same ∙ signed-pattern_12 imm h

pub imm_b-b_type : (w op f3 rs1 rs2 : ℕ) (offset : ℤ) → w ≡ b_type op f3 rs1 rs2 offset →
    op < 2 ^ 7 → f3 < 2 ^ 3 → rs1 < 32 → rs2 < 32 → IsBranchOffset offset → imm_b w ≡ offset
imm_b-b_type w op f3 rs1 rs2 offset e a b c d h =
    let below : pattern 13 offset < 2 ^ 13 = pattern_13_below offset h in
    let even : pattern 13 offset % 2 ≡ 0 = pattern_13_even offset h in
    let same : bits w 31 31 * 2 ^ 12 + bits w 7 7 * 2 ^ 11 + bits w 30 25 * 2 ^ 5 + bits w 11 8 * 2 ≡ pattern 13 offset =
    omega arith in
    ap (signed 13) same ∙ signed-pattern_13 offset h

pub imm_u-u_type : (w op rd imm : ℕ) → w ≡ u_type op rd imm →
    op < 2 ^ 7 → rd < 32 → imm % 2 ^ 12 ≡ 0 → imm < 2 ^ 32 → imm_u w ≡ imm
imm_u-u_type w op rd imm e a b c d = omega arith

pub imm_j-j_type : (w op rd : ℕ) (offset : ℤ) → w ≡ j_type op rd offset →
    op < 2 ^ 7 → rd < 32 → IsJumpOffset offset → imm_j w ≡ offset
imm_j-j_type w op rd offset e a b h =
    let below : pattern 21 offset < 2 ^ 21 = pattern_21_below offset h in
    let even : pattern 21 offset % 2 ≡ 0 = pattern_21_even offset h in
    let same : bits w 31 31 * 2 ^ 20 + bits w 19 12 * 2 ^ 12 + bits w 20 20 * 2 ^ 11 + bits w 30 21 * 2 ≡ pattern 21 offset =
    omega arith in
    ap (signed 21) same ∙ signed-pattern_21 offset h

-- the function at the codes of each kind
inst_of-Branch : (cond : Cond) (w f7 rd rs1 rs2 : ℕ) →
    inst_of w 0b1100011 (cond_code cond) f7 rd rs1 rs2 ≡ Some (Branch cond rs1 rs2 (imm_b w))
unfolding inst_of
inst_of-Branch Beq w f7 rd rs1 rs2 = refl
inst_of-Branch Bne w f7 rd rs1 rs2 = refl
inst_of-Branch Blt w f7 rd rs1 rs2 = refl
inst_of-Branch Bge w f7 rd rs1 rs2 = refl
inst_of-Branch Bltu w f7 rd rs1 rs2 = refl
inst_of-Branch Bgeu w f7 rd rs1 rs2 = refl

inst_of-Load : (kind : LoadKind) (w f7 rd rs1 rs2 : ℕ) →
    inst_of w 0b0000011 (load_kind_code kind) f7 rd rs1 rs2 ≡ Some (Load kind rd rs1 (imm_i w))
unfolding inst_of
inst_of-Load Lb w f7 rd rs1 rs2 = refl
inst_of-Load Lh w f7 rd rs1 rs2 = refl
inst_of-Load Lw w f7 rd rs1 rs2 = refl
inst_of-Load Lbu w f7 rd rs1 rs2 = refl
inst_of-Load Lhu w f7 rd rs1 rs2 = refl

inst_of-Store : (size : Size) (w f7 rd rs1 rs2 : ℕ) →
    inst_of w 0b0100011 (size_code size) f7 rd rs1 rs2 ≡ Some (Store size rs1 rs2 (imm_s w))
unfolding inst_of
inst_of-Store Byte w f7 rd rs1 rs2 = refl
inst_of-Store Half w f7 rd rs1 rs2 = refl
inst_of-Store Word w f7 rd rs1 rs2 = refl

inst_of-Op : (op : RegOp) (w rd rs1 rs2 : ℕ) →
    inst_of w 0b0110011 (reg_op_funct3 op) (reg_op_funct7 op) rd rs1 rs2 ≡ Some (Op op rd rs1 rs2)
unfolding inst_of
inst_of-Op Add w rd rs1 rs2 = refl
inst_of-Op Sub w rd rs1 rs2 = refl
inst_of-Op Sll w rd rs1 rs2 = refl
inst_of-Op Slt w rd rs1 rs2 = refl
inst_of-Op Sltu w rd rs1 rs2 = refl
inst_of-Op Xor w rd rs1 rs2 = refl
inst_of-Op Srl w rd rs1 rs2 = refl
inst_of-Op Sra w rd rs1 rs2 = refl
inst_of-Op Or w rd rs1 rs2 = refl
inst_of-Op And w rd rs1 rs2 = refl
inst_of-Op Mul w rd rs1 rs2 = refl
inst_of-Op Mulh w rd rs1 rs2 = refl
inst_of-Op Mulhsu w rd rs1 rs2 = refl
inst_of-Op Mulhu w rd rs1 rs2 = refl
inst_of-Op Div w rd rs1 rs2 = refl
inst_of-Op Divu w rd rs1 rs2 = refl
inst_of-Op Rem w rd rs1 rs2 = refl
inst_of-Op Remu w rd rs1 rs2 = refl

cond_code_below : (x : Cond) → cond_code x < 2 ^ 3
cond_code_below Beq = lit< tt
cond_code_below Bne = lit< tt
cond_code_below Blt = lit< tt
cond_code_below Bge = lit< tt
cond_code_below Bltu = lit< tt
cond_code_below Bgeu = lit< tt

load_kind_code_below : (x : LoadKind) → load_kind_code x < 2 ^ 3
load_kind_code_below Lb = lit< tt
load_kind_code_below Lh = lit< tt
load_kind_code_below Lw = lit< tt
load_kind_code_below Lbu = lit< tt
load_kind_code_below Lhu = lit< tt

size_code_below : (x : Size) → size_code x < 2 ^ 3
size_code_below Byte = lit< tt
size_code_below Half = lit< tt
size_code_below Word = lit< tt

reg_op_funct3_below : (x : RegOp) → reg_op_funct3 x < 2 ^ 3
reg_op_funct3_below Add = lit< tt
reg_op_funct3_below Sub = lit< tt
reg_op_funct3_below Sll = lit< tt
reg_op_funct3_below Slt = lit< tt
reg_op_funct3_below Sltu = lit< tt
reg_op_funct3_below Xor = lit< tt
reg_op_funct3_below Srl = lit< tt
reg_op_funct3_below Sra = lit< tt
reg_op_funct3_below Or = lit< tt
reg_op_funct3_below And = lit< tt
reg_op_funct3_below Mul = lit< tt
reg_op_funct3_below Mulh = lit< tt
reg_op_funct3_below Mulhsu = lit< tt
reg_op_funct3_below Mulhu = lit< tt
reg_op_funct3_below Div = lit< tt
reg_op_funct3_below Divu = lit< tt
reg_op_funct3_below Rem = lit< tt
reg_op_funct3_below Remu = lit< tt

reg_op_funct7_below : (x : RegOp) → reg_op_funct7 x < 2 ^ 7
reg_op_funct7_below Add = lit< tt
reg_op_funct7_below Sub = lit< tt
reg_op_funct7_below Sll = lit< tt
reg_op_funct7_below Slt = lit< tt
reg_op_funct7_below Sltu = lit< tt
reg_op_funct7_below Xor = lit< tt
reg_op_funct7_below Srl = lit< tt
reg_op_funct7_below Sra = lit< tt
reg_op_funct7_below Or = lit< tt
reg_op_funct7_below And = lit< tt
reg_op_funct7_below Mul = lit< tt
reg_op_funct7_below Mulh = lit< tt
reg_op_funct7_below Mulhsu = lit< tt
reg_op_funct7_below Mulhu = lit< tt
reg_op_funct7_below Div = lit< tt
reg_op_funct7_below Divu = lit< tt
reg_op_funct7_below Rem = lit< tt
reg_op_funct7_below Remu = lit< tt

shift_below : (n : ℤ) → IsShiftAmount n → unsigned_abs n < 32
shift_below (pos k) h = omega (arith, ints)
shift_below (negsuc k) h = omega (arith, ints)

shift_same : (n : ℤ) → IsShiftAmount n → pos (unsigned_abs n) ≡ n
shift_same (pos k) h = refl
shift_same (negsuc k) h = absurd (omega (arith, ints))

fence_at : (w op f3 f7 rd rs1 rs2 : ℕ) → op ≡ 0b0001111 → f3 ≡ 0b000 → inst_of w op f3 f7 rd rs1 rs2 ≡ Some (Fence (w - 0b0001111))
unfolding inst_of
fence_at w op f3 f7 rd rs1 rs2 e1 e2 = rw (e1, e2) refl

row_fence : (w hints : ℕ) → w ≡ hints + 0b0001111 → bits hints 6 0 ≡ 0 → bits hints 14 12 ≡ 0 → hints < 2 ^ 32 →
    decoded w ≡ Some (Fence hints)
unfolding decoded
row_fence w hints e a b c =
    let e1 : opcode_of w ≡ 0b0001111 = omega arith in
    let e2 : funct3_of w ≡ 0b000 = omega arith in
    let e3 : w - 0b0001111 ≡ hints = omega arith in
    fence_at w (opcode_of w) (funct3_of w) _ _ _ _ e1 e2 ∙ ap (λ h. Some (Fence h)) e3

row_imm : (w f3 rd rs1 : ℕ) (imm : ℤ) → w ≡ i_type 0b0010011 f3 rd rs1 imm →
    f3 < 2 ^ 3 → rd < 32 → rs1 < 32 → IsImmediate imm →
    (decoded w ≡ inst_of w 0b0010011 f3 (funct7_of w) rd rs1 (rs2_of w)) × (imm_i w ≡ imm)
row_imm w f3 rd rs1 imm e a b c h =
    (decoded-i_type w _ f3 rd rs1 imm e (lit< tt) a b c (pattern_12_below imm h), imm_i-i_type w _ f3 rd rs1 imm e (lit< tt) a b c h)

-- the atomic accesses
inst_of-atomic : (w f7 rd rs1 rs2 : ℕ) → inst_of w 0b0101111 0b010 f7 rd rs1 rs2 ≡ word_atomic_inst (funct5_of w) (order_of w) rd rs1 rs2
unfolding inst_of
inst_of-atomic w f7 rd rs1 rs2 = refl

decoded-a_type : (w f5 order rd rs1 rs2 : ℕ) → w ≡ a_type f5 order rd rs1 rs2 →
    f5 < 2 ^ 5 → order < 4 → rd < 32 → rs1 < 32 → rs2 < 32 → decoded w ≡ word_atomic_inst f5 order rd rs1 rs2
decoded-a_type w f5 order rd rs1 rs2 e a b c d f =
    let e1 : funct5_of w ≡ f5 = omega arith in
    let e2 : order_of w ≡ order = omega arith in
    decoded-r_type w _ _ (f5 * 2 ^ 2 + order) rd rs1 rs2 e (lit< tt) (lit< tt) (omega arith) c d f
    ∙ inst_of-atomic w _ rd rs1 rs2
    ∙ ap (λ x. word_atomic_inst x (order_of w) rd rs1 rs2) e1
    ∙ ap (λ x. word_atomic_inst f5 x rd rs1 rs2) e2

word_atomic-Amo : (op : AmoOp) (order rd rs1 rs2 : ℕ) → word_atomic_inst (amo_op_code op) order rd rs1 rs2 ≡ Some (Amo op rd rs1 rs2 order)
word_atomic-Amo Amoswap order rd rs1 rs2 = refl
word_atomic-Amo Amoadd order rd rs1 rs2 = refl
word_atomic-Amo Amoxor order rd rs1 rs2 = refl
word_atomic-Amo Amoand order rd rs1 rs2 = refl
word_atomic-Amo Amoor order rd rs1 rs2 = refl
word_atomic-Amo Amomin order rd rs1 rs2 = refl
word_atomic-Amo Amomax order rd rs1 rs2 = refl
word_atomic-Amo Amominu order rd rs1 rs2 = refl
word_atomic-Amo Amomaxu order rd rs1 rs2 = refl

amo_op_code_below : (x : AmoOp) → amo_op_code x < 2 ^ 5
amo_op_code_below Amoswap = lit< tt
amo_op_code_below Amoadd = lit< tt
amo_op_code_below Amoxor = lit< tt
amo_op_code_below Amoand = lit< tt
amo_op_code_below Amoor = lit< tt
amo_op_code_below Amomin = lit< tt
amo_op_code_below Amomax = lit< tt
amo_op_code_below Amominu = lit< tt
amo_op_code_below Amomaxu = lit< tt

pub decoded-encoding : (w : ℕ) (i : Inst) → Encodes w i → decoded w ≡ Some i
unfolding encoding inst_of
decoded-encoding w (Lui rd imm) e =
    decoded-u_type w _ rd imm e.row (lit< tt) e.registers.0 e.range
    ∙ ap (λ m. Some (Lui rd m)) (imm_u-u_type w _ rd imm e.row (lit< tt) e.registers.0 e.range e.registers.1)
decoded-encoding w (Auipc rd imm) e =
    decoded-u_type w _ rd imm e.row (lit< tt) e.registers.0 e.range
    ∙ ap (λ m. Some (Auipc rd m)) (imm_u-u_type w _ rd imm e.row (lit< tt) e.registers.0 e.range e.registers.1)
decoded-encoding w (Jal rd offset) e =
    decoded-j_type w _ rd offset e.row (lit< tt) e.registers (pattern_21_below offset e.range)
    ∙ ap (λ m. Some (Jal rd m)) (imm_j-j_type w _ rd offset e.row (lit< tt) e.registers e.range)
decoded-encoding w (Jalr rd rs1 imm) e =
    decoded-i_type w _ 0 rd rs1 imm e.row (lit< tt) (lit< tt) e.registers.0 e.registers.1 (pattern_12_below imm e.range)
    ∙ ap (λ m. Some (Jalr rd rs1 m)) (imm_i-i_type w _ 0 rd rs1 imm e.row (lit< tt) (lit< tt) e.registers.0 e.registers.1 e.range)
decoded-encoding w (Branch cond rs1 rs2 offset) e =
    let row : w ≡ b_type 0b1100011 (cond_code cond) rs1 rs2 offset = e.row ∙ encoding-Branch cond rs1 rs2 offset in
    decoded-b_type w _ _ rs1 rs2 offset row (lit< tt) (cond_code_below cond) e.registers.0 e.registers.1 (pattern_13_below offset e.range)
    ∙ inst_of-Branch cond w (funct7_of w) (rd_of w) rs1 rs2
    ∙ ap (λ m. Some (Branch cond rs1 rs2 m))
    (imm_b-b_type w _ _ rs1 rs2 offset row (lit< tt) (cond_code_below cond) e.registers.0 e.registers.1 e.range)
decoded-encoding w (Load kind rd rs1 imm) e =
    let row : w ≡ i_type 0b0000011 (load_kind_code kind) rd rs1 imm = e.row ∙ encoding-Load kind rd rs1 imm in
    decoded-i_type w _ _ rd rs1 imm row (lit< tt) (load_kind_code_below kind) e.registers.0 e.registers.1 (pattern_12_below imm e.range)
    ∙ inst_of-Load kind w (funct7_of w) rd rs1 (rs2_of w)
    ∙ ap (λ m. Some (Load kind rd rs1 m))
    (imm_i-i_type w _ _ rd rs1 imm row (lit< tt) (load_kind_code_below kind) e.registers.0 e.registers.1 e.range)
decoded-encoding w (Store size rs1 rs2 imm) e =
    let row : w ≡ s_type 0b0100011 (size_code size) rs1 rs2 imm = e.row ∙ encoding-Store size rs1 rs2 imm in
    decoded-s_type w _ _ rs1 rs2 imm row (lit< tt) (size_code_below size) e.registers.0 e.registers.1 (pattern_12_below imm e.range)
    ∙ inst_of-Store size w (funct7_of w) (rd_of w) rs1 rs2
    ∙ ap (λ m. Some (Store size rs1 rs2 m))
    (imm_s-s_type w _ _ rs1 rs2 imm row (lit< tt) (size_code_below size) e.registers.0 e.registers.1 e.range)
decoded-encoding w (OpImm Addi rd rs1 imm) e =
    let both = row_imm w 0 rd rs1 imm e.row (lit< tt) e.registers.0 e.registers.1 e.range in
    both.0 ∙ ap (λ m. Some (OpImm Addi rd rs1 m)) both.1
decoded-encoding w (OpImm Slti rd rs1 imm) e =
    let both = row_imm w 2 rd rs1 imm e.row (lit< tt) e.registers.0 e.registers.1 e.range in
    both.0 ∙ ap (λ m. Some (OpImm Slti rd rs1 m)) both.1
decoded-encoding w (OpImm Sltiu rd rs1 imm) e =
    let both = row_imm w 3 rd rs1 imm e.row (lit< tt) e.registers.0 e.registers.1 e.range in
    both.0 ∙ ap (λ m. Some (OpImm Sltiu rd rs1 m)) both.1
decoded-encoding w (OpImm Xori rd rs1 imm) e =
    let both = row_imm w 4 rd rs1 imm e.row (lit< tt) e.registers.0 e.registers.1 e.range in
    both.0 ∙ ap (λ m. Some (OpImm Xori rd rs1 m)) both.1
decoded-encoding w (OpImm Ori rd rs1 imm) e =
    let both = row_imm w 6 rd rs1 imm e.row (lit< tt) e.registers.0 e.registers.1 e.range in
    both.0 ∙ ap (λ m. Some (OpImm Ori rd rs1 m)) both.1
decoded-encoding w (OpImm Andi rd rs1 imm) e =
    let both = row_imm w 7 rd rs1 imm e.row (lit< tt) e.registers.0 e.registers.1 e.range in
    both.0 ∙ ap (λ m. Some (OpImm Andi rd rs1 m)) both.1
decoded-encoding w (OpImm Slli rd rs1 imm) e =
    let below : unsigned_abs imm < 32 = shift_below imm e.range in
    decoded-r_type w _ 1 0 rd rs1 (unsigned_abs imm) e.row (lit< tt) (lit< tt) (lit< tt) e.registers.0 e.registers.1 below
    ∙ ap (λ m. Some (OpImm Slli rd rs1 m)) (shift_same imm e.range)
decoded-encoding w (OpImm Srli rd rs1 imm) e =
    let below : unsigned_abs imm < 32 = shift_below imm e.range in
    decoded-r_type w _ 5 0 rd rs1 (unsigned_abs imm) e.row (lit< tt) (lit< tt) (lit< tt) e.registers.0 e.registers.1 below
    ∙ ap (λ m. Some (OpImm Srli rd rs1 m)) (shift_same imm e.range)
decoded-encoding w (OpImm Srai rd rs1 imm) e =
    let below : unsigned_abs imm < 32 = shift_below imm e.range in
    decoded-r_type w _ 5 32 rd rs1 (unsigned_abs imm) e.row (lit< tt) (lit< tt) (lit< tt) e.registers.0 e.registers.1 below
    ∙ ap (λ m. Some (OpImm Srai rd rs1 m)) (shift_same imm e.range)
decoded-encoding w (Op op rd rs1 rs2) e =
    let row : w ≡ r_type 0b0110011 (reg_op_funct3 op) (reg_op_funct7 op) rd rs1 rs2 = e.row ∙ encoding-Op op rd rs1 rs2 in
    decoded-r_type w _ _ _ rd rs1 rs2 row (lit< tt) (reg_op_funct3_below op) (reg_op_funct7_below op) e.registers.0 e.registers.1
    e.registers.2
    ∙ inst_of-Op op w rd rs1 rs2
decoded-encoding w (Fence hints) e = row_fence w hints e.row e.range.0 e.range.1 e.registers
decoded-encoding w (Lr rd rs1 order) e =
    decoded-a_type w 0b00010 order rd rs1 0 e.row (lit< tt) e.range e.registers.0 e.registers.1 (lit< tt)
decoded-encoding w (Sc rd rs1 rs2 order) e =
    decoded-a_type w 0b00011 order rd rs1 rs2 e.row (lit< tt) e.range e.registers.0 e.registers.1 e.registers.2
decoded-encoding w (Amo op rd rs1 rs2 order) e =
    decoded-a_type w (amo_op_code op) order rd rs1 rs2 (e.row ∙ encoding-Amo op rd rs1 rs2 order) (amo_op_code_below op) e.range
    e.registers.0 e.registers.1 e.registers.2
    ∙ word_atomic-Amo op order rd rs1 rs2
decoded-encoding w Ecall e = ap decoded e.row ∙ (unfold decoded in refl)
decoded-encoding w Ebreak e = ap decoded e.row ∙ (unfold decoded in refl)
