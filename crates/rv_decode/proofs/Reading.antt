-- A word that decodes to an instruction is the word that the table has for it.
use Rattle.std.proofs.Common.{◌≡◌, nat_eq, subst, ◌<◌, ◌+◌, ◌*◌, ◌%◌, ◌^◌, ◌==◌, ℕ, ℤ, pos, Bool, true, false, Option, Some, None, IfSome}
use Rattle.std.proofs.Common.{if◌then◌else◌, refl, sym, ap, ◌∙◌, arith}
use Rattle.std.specs.Option.{option_map}
use Rattle.std.proofs.lemmas.Bool.{eqb-true}
use Rattle.std.proofs.lemmas.Bool.Decides.{nat_tests}
use Rattle.std.proofs.lemmas.Int.{ints}
use Rattle.rv_decode.specs.declared.instruction.ImmOp.{ImmOp}
use Rattle.rv_decode.specs.declared.instruction.ImmOp.TheVariants.{Addi, Slti, Sltiu, Xori, Ori, Andi, Slli, Srli, Srai}
use Rattle.rv_decode.specs.declared.instruction.RegOp.{RegOp}
use Rattle.rv_decode.specs.declared.instruction.Inst.{Inst}
use Rattle.rv_decode.specs.declared.instruction.Inst.TheVariants.{Lui, Auipc, Jal, Branch, Load, Store, OpImm, Op, Lr, Sc, Amo}
use Rattle.rv_decode.proofs.Rows.{encoding-Branch, encoding-Load, encoding-Store, encoding-Op, encoding-Amo}
use Rattle.rv_decode.specs.Bits.{bits, signed, pattern}
use Rattle.rv_decode.specs.Codes.{cond_code, cond_of, load_kind_code, load_kind_of, size_code, size_of, imm_op_code, imm_op_of, shift_of}
use Rattle.rv_decode.specs.Codes.{reg_op_funct3, reg_op_funct7, reg_op_of, base_op_of, other_op_of, multiply_op_of, amo_op_code, amo_op_of}
use Rattle.rv_decode.specs.Decoding.{decoded, inst_of, jalr_inst, branch_inst, load_inst, store_inst, imm_inst, op_inst, fence_inst}
use Rattle.rv_decode.specs.Decoding.{system_inst, atomic_inst, word_atomic_inst, lr_inst}
use Rattle.rv_decode.specs.Formats.{opcode_of, rd_of, funct3_of, rs1_of, rs2_of, funct7_of, funct5_of, order_of, imm_i, imm_s, imm_b, imm_u}
use Rattle.rv_decode.specs.Formats.{imm_j, r_type, a_type, i_type, s_type, b_type}
use Rattle.rv_decode.specs.Table.{encoding, Encodes, IsImmediate, IsBranchOffset, IsJumpOffset, IsOperand}

-- what two's complement gives, and that it leads back
pub pattern-signed_12 : (p : ℕ) → p < 2 ^ 12 → pattern 12 (signed 12 p) ≡ p
pattern-signed_12 p h = grind (arith, nat_tests)

pub IsImmediate-signed_12 : (p : ℕ) → p < 2 ^ 12 → IsImmediate (signed 12 p)
IsImmediate-signed_12 p h = grind (arith, nat_tests, ints)

pub pattern-signed_13 : (p : ℕ) → p < 2 ^ 13 → pattern 13 (signed 13 p) ≡ p
pattern-signed_13 p h = grind (arith, nat_tests)

pub IsBranchOffset-signed_13 : (p : ℕ) → p < 2 ^ 13 → p % 2 ≡ 0 → IsBranchOffset (signed 13 p)
IsBranchOffset-signed_13 p h e = grind (arith, nat_tests, ints)

pub pattern-signed_21 : (p : ℕ) → p < 2 ^ 21 → pattern 21 (signed 21 p) ≡ p
pattern-signed_21 p h = grind (arith, nat_tests)

pub IsJumpOffset-signed_21 : (p : ℕ) → p < 2 ^ 21 → p % 2 ≡ 0 → IsJumpOffset (signed 21 p)
IsJumpOffset-signed_21 p h e = grind (arith, nat_tests, ints)

-- codes that name an operation are the operation's
cond_code-cond_of : (n : ℕ) → IfSome (cond_of n) (λ c. cond_code c ≡ n)
cond_code-cond_of n = grind (arith, nat_tests)

load_kind_code-load_kind_of : (n : ℕ) → IfSome (load_kind_of n) (λ c. load_kind_code c ≡ n)
load_kind_code-load_kind_of n = grind (arith, nat_tests)

size_code-size_of : (n : ℕ) → IfSome (size_of n) (λ c. size_code c ≡ n)
size_code-size_of n = grind (arith, nat_tests)

reg_op-base_op_of : (n : ℕ) → IfSome (base_op_of n) (λ o. (reg_op_funct3 o ≡ n) × (reg_op_funct7 o ≡ 0b0000000))
reg_op-base_op_of n = grind (arith, nat_tests)

reg_op-other_op_of : (n : ℕ) → IfSome (other_op_of n) (λ o. (reg_op_funct3 o ≡ n) × (reg_op_funct7 o ≡ 0b0100000))
reg_op-other_op_of n = grind (arith, nat_tests)

reg_op-multiply_op_of : (n : ℕ) → IfSome (multiply_op_of n) (λ o. (reg_op_funct3 o ≡ n) × (reg_op_funct7 o ≡ 0b0000001))
reg_op-multiply_op_of n = grind (arith, nat_tests)

amo_op_code-amo_op_of : (n : ℕ) → IfSome (amo_op_of n) (λ o. amo_op_code o ≡ n)
amo_op_code-amo_op_of n = grind (arith, nat_tests)

-- a choice, and an option that is mapped
chosen : {A : Type 0} (P : A → Type 0) (b : Bool) (x y : A) → (b ≡ true → P x) → (b ≡ false → P y) → P (if b then x else y)
chosen P true x y s t = s refl
chosen P false x y s t = t refl

mapped : {A B : Type 0} (f : A → B) (P : B → Type 0) (Q : A → Type 0) (o : Option A) →
    IfSome o Q → ((x : A) → Q x → P (f x)) → IfSome (option_map f o) P
mapped f P Q None q h = tt
mapped f P Q (Some x) q h = h x q

-- funct7 of a shift; None of an operation with an immediate of twelve bits
abbrev imm_op_funct7 : ImmOp → Option ℕ
imm_op_funct7 Addi = None
imm_op_funct7 Slti = None
imm_op_funct7 Sltiu = None
imm_op_funct7 Xori = None
imm_op_funct7 Ori = None
imm_op_funct7 Andi = None
imm_op_funct7 Slli = Some 0b0000000
imm_op_funct7 Srli = Some 0b0000000
imm_op_funct7 Srai = Some 0b0100000

imm_op-shift_of : (f3 f7 : ℕ) → IfSome (shift_of f3 f7) (λ op. (imm_op_code op ≡ f3) × (imm_op_funct7 op ≡ Some f7))
imm_op-shift_of f3 f7 = grind (arith, nat_tests)

imm_op-imm_op_of : (f3 : ℕ) → IfSome (imm_op_of f3) (λ op. (imm_op_code op ≡ f3) × (imm_op_funct7 op ≡ None))
imm_op-imm_op_of f3 = grind (arith, nat_tests)

shift_row : (op : ImmOp) (f7 rd rs1 rs2 : ℕ) → imm_op_funct7 op ≡ Some f7 → rs2 < 32 →
    IsOperand op (pos rs2) × (encoding (OpImm op rd rs1 (pos rs2)) ≡ r_type 0b0010011 (imm_op_code op) f7 rd rs1 rs2)
unfolding encoding
shift_row Addi f7 rd rs1 rs2 e h = absurd (cc)
shift_row Slti f7 rd rs1 rs2 e h = absurd (cc)
shift_row Sltiu f7 rd rs1 rs2 e h = absurd (cc)
shift_row Xori f7 rd rs1 rs2 e h = absurd (cc)
shift_row Ori f7 rd rs1 rs2 e h = absurd (cc)
shift_row Andi f7 rd rs1 rs2 e h = absurd (cc)
shift_row Slli f7 rd rs1 rs2 e h = let same : 0 ≡ f7 = cc in
    ((omega (arith, ints), omega (arith, ints)), ap (λ f. r_type 0b0010011 1 f rd rs1 rs2) same)
shift_row Srli f7 rd rs1 rs2 e h = let same : 0 ≡ f7 = cc in
    ((omega (arith, ints), omega (arith, ints)), ap (λ f. r_type 0b0010011 5 f rd rs1 rs2) same)
shift_row Srai f7 rd rs1 rs2 e h = let same : 32 ≡ f7 = cc in
    ((omega (arith, ints), omega (arith, ints)), ap (λ f. r_type 0b0010011 5 f rd rs1 rs2) same)

imm_row : (op : ImmOp) (rd rs1 : ℕ) (imm : ℤ) → imm_op_funct7 op ≡ None → IsImmediate imm →
    IsOperand op imm × (encoding (OpImm op rd rs1 imm) ≡ i_type 0b0010011 (imm_op_code op) rd rs1 imm)
unfolding encoding
imm_row Addi rd rs1 imm e h = (h, refl)
imm_row Slti rd rs1 imm e h = (h, refl)
imm_row Sltiu rd rs1 imm e h = (h, refl)
imm_row Xori rd rs1 imm e h = (h, refl)
imm_row Ori rd rs1 imm e h = (h, refl)
imm_row Andi rd rs1 imm e h = (h, refl)
imm_row Slli rd rs1 imm e h = absurd (cc)
imm_row Srli rd rs1 imm e h = absurd (cc)
imm_row Srai rd rs1 imm e h = absurd (cc)

reg_op-reg_op_of : (f3 f7 : ℕ) → IfSome (reg_op_of f3 f7) (λ o. (reg_op_funct3 o ≡ f3) × (reg_op_funct7 o ≡ f7))
reg_op-reg_op_of f3 f7 =
    let P = λ (r : Option RegOp). IfSome r (λ o. (reg_op_funct3 o ≡ f3) × (reg_op_funct7 o ≡ f7)) in
    let at : (k : ℕ) (r : Option RegOp) → IfSome r (λ o. (reg_op_funct3 o ≡ f3) × (reg_op_funct7 o ≡ k)) → nat_eq f7 k ≡ true → P r =
    λ k r q t. subst (λ (n : ℕ). IfSome r (λ o. (reg_op_funct3 o ≡ f3) × (reg_op_funct7 o ≡ n))) (sym (eqb-true f7 k t)) q in
    chosen P (f7 == 0b0000000) _ _ (at _ _ (reg_op-base_op_of f3))
    (λ _. chosen P (f7 == 0b0100000) _ _ (at _ _ (reg_op-other_op_of f3))
    (λ _. chosen P (f7 == 0b0000001) _ _ (at _ _ (reg_op-multiply_op_of f3)) (λ _. tt)))

-- the instructions of each opcode
row_Lui : (w : ℕ) → w < 2 ^ 32 → opcode_of w ≡ 0b0110111 → Encodes w (Lui (rd_of w) (imm_u w))
unfolding encoding
row_Lui w h o = record { registers = (omega arith, omega arith); range = omega arith; row = omega arith }

row_Auipc : (w : ℕ) → w < 2 ^ 32 → opcode_of w ≡ 0b0010111 → Encodes w (Auipc (rd_of w) (imm_u w))
unfolding encoding
row_Auipc w h o = record { registers = (omega arith, omega arith); range = omega arith; row = omega arith }

row_Jal : (w : ℕ) → w < 2 ^ 32 → opcode_of w ≡ 0b1101111 → Encodes w (Jal (rd_of w) (imm_j w))
unfolding encoding
row_Jal w h o =
    let p = bits w 31 31 * 2 ^ 20 + bits w 19 12 * 2 ^ 12 + bits w 20 20 * 2 ^ 11 + bits w 30 21 * 2 in
    let below : p < 2 ^ 21 = omega arith in
    let even : p % 2 ≡ 0 = omega arith in
    let back : pattern 21 (imm_j w) ≡ p = pattern-signed_21 p below in
    record { registers = omega arith; range = IsJumpOffset-signed_21 p below even; row = rw back (omega arith) }

-- a word is that of its fields, in each format
i_row : (w op f3 : ℕ) → w < 2 ^ 32 → opcode_of w ≡ op → funct3_of w ≡ f3 →
    IsImmediate (imm_i w) × (w ≡ i_type op f3 (rd_of w) (rs1_of w) (imm_i w))
i_row w op f3 h o f =
    let p = bits w 31 20 in
    let below : p < 2 ^ 12 = omega arith in
    let back : pattern 12 (imm_i w) ≡ p = pattern-signed_12 p below in
    (IsImmediate-signed_12 p below, rw back (omega arith))

s_row : (w op f3 : ℕ) → w < 2 ^ 32 → opcode_of w ≡ op → funct3_of w ≡ f3 →
    IsImmediate (imm_s w) × (w ≡ s_type op f3 (rs1_of w) (rs2_of w) (imm_s w))
s_row w op f3 h o f =
    let p = bits w 31 25 * 2 ^ 5 + bits w 11 7 in
    let below : p < 2 ^ 12 = omega arith in
    let back : pattern 12 (imm_s w) ≡ p = pattern-signed_12 p below in
    (IsImmediate-signed_12 p below, rw back (omega arith))

b_row : (w op f3 : ℕ) → w < 2 ^ 32 → opcode_of w ≡ op → funct3_of w ≡ f3 →
    IsBranchOffset (imm_b w) × (w ≡ b_type op f3 (rs1_of w) (rs2_of w) (imm_b w))
b_row w op f3 h o f =
    let p = bits w 31 31 * 2 ^ 12 + bits w 7 7 * 2 ^ 11 + bits w 30 25 * 2 ^ 5 + bits w 11 8 * 2 in
    let below : p < 2 ^ 13 = omega arith in
    let even : p % 2 ≡ 0 = omega arith in
    let back : pattern 13 (imm_b w) ≡ p = pattern-signed_13 p below in
    (IsBranchOffset-signed_13 p below even, rw back (omega arith))

r_row : (w op f3 f7 : ℕ) → w < 2 ^ 32 → opcode_of w ≡ op → funct3_of w ≡ f3 → funct7_of w ≡ f7 →
    w ≡ r_type op f3 f7 (rd_of w) (rs1_of w) (rs2_of w)
r_row w op f3 f7 h o f g = omega arith

a_row : (w f5 : ℕ) → w < 2 ^ 32 → opcode_of w ≡ 0b0101111 → funct3_of w ≡ 0b010 → funct5_of w ≡ f5 →
    w ≡ a_type f5 (order_of w) (rd_of w) (rs1_of w) (rs2_of w)
a_row w f5 h o f g = omega arith

registers_below : (w : ℕ) → (rd_of w < 32) × (rs1_of w < 32) × (rs2_of w < 32)
registers_below w = (omega arith, omega arith, omega arith)

-- each opcode's instructions
row_jalr : (w : ℕ) → w < 2 ^ 32 → opcode_of w ≡ 0b1100111 → IfSome (jalr_inst w (funct3_of w) (rd_of w) (rs1_of w)) (Encodes w)
unfolding encoding
row_jalr w h o =
    let b = registers_below w in
    chosen (λ i. IfSome i (Encodes w)) (funct3_of w == 0b000) _ _
    (λ t. let r = i_row w _ 0 h o (eqb-true _ _ t) in record { registers = (b.0, b.1); range = r.0; row = r.1 })
    (λ _. tt)

row_branch : (w : ℕ) → w < 2 ^ 32 → opcode_of w ≡ 0b1100011 → IfSome (branch_inst w (funct3_of w) (rs1_of w) (rs2_of w)) (Encodes w)
row_branch w h o =
    let b = registers_below w in
    mapped (λ cond. Branch cond (rs1_of w) (rs2_of w) (imm_b w)) (Encodes w) (λ cond. cond_code cond ≡ funct3_of w) (cond_of (funct3_of w))
    (cond_code-cond_of (funct3_of w))
    (λ cond e. let r = b_row w _ (cond_code cond) h o (sym e) in
    record { registers = (b.1, b.2); range = r.0; row = r.1 ∙ sym (encoding-Branch cond _ _ _) })

row_load : (w : ℕ) → w < 2 ^ 32 → opcode_of w ≡ 0b0000011 → IfSome (load_inst w (funct3_of w) (rd_of w) (rs1_of w)) (Encodes w)
row_load w h o =
    let b = registers_below w in
    mapped (λ kind. Load kind (rd_of w) (rs1_of w) (imm_i w)) (Encodes w) (λ kind. load_kind_code kind ≡ funct3_of w)
    (load_kind_of (funct3_of w))
    (load_kind_code-load_kind_of (funct3_of w))
    (λ kind e. let r = i_row w _ (load_kind_code kind) h o (sym e) in
    record { registers = (b.0, b.1); range = r.0; row = r.1 ∙ sym (encoding-Load kind _ _ _) })

row_store : (w : ℕ) → w < 2 ^ 32 → opcode_of w ≡ 0b0100011 → IfSome (store_inst w (funct3_of w) (rs1_of w) (rs2_of w)) (Encodes w)
row_store w h o =
    let b = registers_below w in
    mapped (λ size. Store size (rs1_of w) (rs2_of w) (imm_s w)) (Encodes w) (λ size. size_code size ≡ funct3_of w) (size_of (funct3_of w))
    (size_code-size_of (funct3_of w))
    (λ size e. let r = s_row w _ (size_code size) h o (sym e) in
    record { registers = (b.1, b.2); range = r.0; row = r.1 ∙ sym (encoding-Store size _ _ _) })

row_op : (w : ℕ) → w < 2 ^ 32 → opcode_of w ≡ 0b0110011 →
    IfSome (op_inst (funct3_of w) (funct7_of w) (rd_of w) (rs1_of w) (rs2_of w)) (Encodes w)
row_op w h o =
    let b = registers_below w in
    mapped (λ op. Op op (rd_of w) (rs1_of w) (rs2_of w)) (Encodes w)
    (λ op. (reg_op_funct3 op ≡ funct3_of w) × (reg_op_funct7 op ≡ funct7_of w))
    (reg_op_of (funct3_of w) (funct7_of w))
    (reg_op-reg_op_of (funct3_of w) (funct7_of w))
    (λ op e. record {
      registers = b;
      range = tt;
      row = r_row w _ (reg_op_funct3 op) (reg_op_funct7 op) h o (sym e.0) (sym e.1)
          ∙ sym (encoding-Op op _ _ _);
    })

shift_inst : (w : ℕ) → w < 2 ^ 32 → opcode_of w ≡ 0b0010011 →
    IfSome (option_map (λ op. OpImm op (rd_of w) (rs1_of w) (pos (rs2_of w))) (shift_of (funct3_of w) (funct7_of w))) (Encodes w)
shift_inst w h o =
    let b = registers_below w in
    mapped (λ op. OpImm op (rd_of w) (rs1_of w) (pos (rs2_of w))) (Encodes w)
    (λ op. (imm_op_code op ≡ funct3_of w) × (imm_op_funct7 op ≡ Some (funct7_of w)))
    (shift_of (funct3_of w) (funct7_of w))
    (imm_op-shift_of (funct3_of w) (funct7_of w))
    (λ op e. let s = shift_row op (funct7_of w) (rd_of w) (rs1_of w) (rs2_of w) e.1 b.2 in
    record { registers = (b.0, b.1); range = s.0; row = r_row w _ (imm_op_code op) _ h o (sym e.0) refl ∙ sym s.1 })

row_imm : (w : ℕ) → w < 2 ^ 32 → opcode_of w ≡ 0b0010011 →
    IfSome (imm_inst w (funct3_of w) (funct7_of w) (rd_of w) (rs1_of w) (rs2_of w)) (Encodes w)
row_imm w h o =
    let b = registers_below w in
    chosen (λ i. IfSome i (Encodes w)) (funct3_of w == 0b001) _ _ (λ _. shift_inst w h o)
    (λ _. chosen (λ i. IfSome i (Encodes w)) (funct3_of w == 0b101) _ _ (λ _. shift_inst w h o)
    (λ _. mapped (λ op. OpImm op (rd_of w) (rs1_of w) (imm_i w)) (Encodes w)
    (λ op. (imm_op_code op ≡ funct3_of w) × (imm_op_funct7 op ≡ None))
    (imm_op_of (funct3_of w))
    (imm_op-imm_op_of (funct3_of w))
    (λ op e. let r = i_row w _ (imm_op_code op) h o (sym e.0) in
    let s = imm_row op (rd_of w) (rs1_of w) (imm_i w) e.1 r.0 in
    record { registers = (b.0, b.1); range = s.0; row = r.1 ∙ sym s.1 })))

row_fence : (w : ℕ) → w < 2 ^ 32 → opcode_of w ≡ 0b0001111 → IfSome (fence_inst w (funct3_of w)) (Encodes w)
unfolding encoding
row_fence w h o =
    chosen (λ i. IfSome i (Encodes w)) (funct3_of w == 0b000) _ _
    (λ t. let f : funct3_of w ≡ 0b000 = eqb-true _ _ t in
    record { registers = omega arith; range = (omega arith, omega arith); row = omega arith })
    (λ _. tt)

row_lr : (w : ℕ) → w < 2 ^ 32 → opcode_of w ≡ 0b0101111 → funct3_of w ≡ 0b010 → funct5_of w ≡ 0b00010 →
    IfSome (lr_inst (order_of w) (rd_of w) (rs1_of w) (rs2_of w)) (Encodes w)
unfolding encoding
row_lr w h o f g =
    let b = registers_below w in
    chosen (λ i. IfSome i (Encodes w)) (rs2_of w == 0) _ _
    (λ t. record {
      registers = (b.0, b.1);
      range = omega arith;
      row = a_row w 0b00010 h o f g ∙ ap (a_type 0b00010 (order_of w) (rd_of w) (rs1_of w)) (eqb-true _ _ t);
    })
    (λ _. tt)

row_sc : (w : ℕ) → w < 2 ^ 32 → opcode_of w ≡ 0b0101111 → funct3_of w ≡ 0b010 → funct5_of w ≡ 0b00011 →
    Encodes w (Sc (rd_of w) (rs1_of w) (rs2_of w) (order_of w))
unfolding encoding
row_sc w h o f g = record { registers = registers_below w; range = omega arith; row = a_row w 0b00011 h o f g }

row_amo : (w : ℕ) → w < 2 ^ 32 → opcode_of w ≡ 0b0101111 → funct3_of w ≡ 0b010 →
    IfSome (option_map (λ op. Amo op (rd_of w) (rs1_of w) (rs2_of w) (order_of w)) (amo_op_of (funct5_of w))) (Encodes w)
row_amo w h o f =
    mapped (λ op. Amo op (rd_of w) (rs1_of w) (rs2_of w) (order_of w)) (Encodes w) (λ op. amo_op_code op ≡ funct5_of w)
    (amo_op_of (funct5_of w))
    (amo_op_code-amo_op_of (funct5_of w))
    (λ op e. record {
      registers = registers_below w;
      range = omega arith;
      row = a_row w (amo_op_code op) h o f (sym e) ∙ sym (encoding-Amo op _ _ _ _);
    })

row_word_atomic : (w : ℕ) → w < 2 ^ 32 → opcode_of w ≡ 0b0101111 → funct3_of w ≡ 0b010 →
    IfSome (word_atomic_inst (funct5_of w) (order_of w) (rd_of w) (rs1_of w) (rs2_of w)) (Encodes w)
row_word_atomic w h o f =
    let P = λ (i : Option Inst). IfSome i (Encodes w) in
    chosen P (funct5_of w == 0b00010) _ _ (λ t. row_lr w h o f (eqb-true _ _ t))
    (λ _. chosen P (funct5_of w == 0b00011) _ _ (λ t. row_sc w h o f (eqb-true _ _ t)) (λ _. row_amo w h o f))

row_atomic : (w : ℕ) → w < 2 ^ 32 → opcode_of w ≡ 0b0101111 →
    IfSome (atomic_inst (funct3_of w) (funct5_of w) (order_of w) (rd_of w) (rs1_of w) (rs2_of w)) (Encodes w)
row_atomic w h o =
    chosen (λ i. IfSome i (Encodes w)) (funct3_of w == 0b010) _ _ (λ t. row_word_atomic w h o (eqb-true _ _ t)) (λ _. tt)

row_system : (w : ℕ) → IfSome (system_inst w) (Encodes w)
unfolding encoding
row_system w =
    chosen (λ i. IfSome i (Encodes w)) (w == 0x0000_0073) _ _ (λ t. record { registers = tt; range = tt; row = eqb-true _ _ t })
    (λ _. chosen (λ i. IfSome i (Encodes w)) (w == 0x0010_0073) _ _ (λ t. record { registers = tt; range = tt; row = eqb-true _ _ t })
    (λ _. tt))

pub Encodes-decoded : (w : ℕ) → w < 2 ^ 32 → IfSome (decoded w) (Encodes w)
unfolding decoded inst_of
Encodes-decoded w h =
    let P = λ (i : Option Inst). IfSome i (Encodes w) in
    let o = opcode_of w in
    chosen P (o == 0b0110111) _ _ (λ t. row_Lui w h (eqb-true _ _ t)) (λ _.
    chosen P (o == 0b0010111) _ _ (λ t. row_Auipc w h (eqb-true _ _ t)) (λ _.
    chosen P (o == 0b1101111) _ _ (λ t. row_Jal w h (eqb-true _ _ t)) (λ _.
    chosen P (o == 0b1100111) _ _ (λ t. row_jalr w h (eqb-true _ _ t)) (λ _.
    chosen P (o == 0b1100011) _ _ (λ t. row_branch w h (eqb-true _ _ t)) (λ _.
    chosen P (o == 0b0000011) _ _ (λ t. row_load w h (eqb-true _ _ t)) (λ _.
    chosen P (o == 0b0100011) _ _ (λ t. row_store w h (eqb-true _ _ t)) (λ _.
    chosen P (o == 0b0010011) _ _ (λ t. row_imm w h (eqb-true _ _ t)) (λ _.
    chosen P (o == 0b0110011) _ _ (λ t. row_op w h (eqb-true _ _ t)) (λ _.
    chosen P (o == 0b0001111) _ _ (λ t. row_fence w h (eqb-true _ _ t)) (λ _.
    chosen P (o == 0b0101111) _ _ (λ t. row_atomic w h (eqb-true _ _ t)) (λ _.
    chosen P (o == 0b1110011) _ _ (λ t. row_system w) (λ _. tt))))))))))))
