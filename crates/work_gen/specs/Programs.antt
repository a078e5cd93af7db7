-- The programs of the workloads, instruction by instruction, and their images.
use Rattle.std.specs.Prelude.{ℕ, ℤ, pos, neg_ℤ, ◌+◌, ◌*◌, List, [], ◌∷◌, ◌++◌, length, flat_map}
use Rattle.std.specs.Int.{w32, to_le_bytes}
use Rattle.tcc_base.specs.declared.access.Size.TheVariants.{Word}
use Rattle.rv_decode.specs.Table.{encoding}
use Rattle.rv_decode.specs.declared.instruction.Inst.{Inst}
use Rattle.rv_decode.specs.declared.instruction.Inst.TheVariants.{Lui, Branch, Load, Store, OpImm, Op, Ecall}
use Rattle.rv_decode.specs.declared.instruction.Cond.TheVariants.{Bne}
use Rattle.rv_decode.specs.declared.instruction.LoadKind.TheVariants.{Lw}
use Rattle.rv_decode.specs.declared.instruction.ImmOp.TheVariants.{Addi, Andi, Slli}
use Rattle.rv_decode.specs.declared.instruction.RegOp.TheVariants.{Add}
use Rattle.work_gen.specs.declared.work.Work.{Work}
use Rattle.work_gen.specs.declared.work.Work.TheVariants.{Counters, Transfers, Stencil, Sharing}

-- the instructions in use, written as an assembler's lines are: lw rd,imm(rs1); sw rs2,imm(rs1)
abbrev pub lw : (rd : ℕ) → ℕ → (rs1 : ℕ) → Inst
lw rd imm rs1 = Load Lw rd rs1 (pos imm)

abbrev pub sw : (rs2 : ℕ) → ℕ → (rs1 : ℕ) → Inst
sw rs2 imm rs1 = Store Word rs1 rs2 (pos imm)

abbrev pub addi : (rd rs1 : ℕ) → ℤ → Inst
addi rd rs1 imm = OpImm Addi rd rs1 imm

abbrev pub andi : (rd rs1 imm : ℕ) → Inst
andi rd rs1 imm = OpImm Andi rd rs1 (pos imm)

abbrev pub slli : (rd rs1 amount : ℕ) → Inst
slli rd rs1 amount = OpImm Slli rd rs1 (pos amount)

abbrev pub add : (rd rs1 rs2 : ℕ) → Inst
add rd rs1 rs2 = Op Add rd rs1 rs2

-- what a transaction of the loop does; x6 is the address of RAM, x7 how many are left, x10 the core's number
unfoldable pub body : Work → List Inst
-- one word, which all cores count up
body Counters = lw 5 64 6 ∷ addi 5 5 (pos 1) ∷ sw 5 64 6 ∷ []
-- one less in a word of sixteen, which depends on the core, and one more in another
body Transfers =
    add 12 7 10 ∷ andi 12 12 15 ∷ slli 12 12 2 ∷ add 12 12 6
    ∷ andi 13 7 15 ∷ slli 13 13 2 ∷ add 13 13 6
    ∷ lw 5 1024 12 ∷ addi 5 5 (neg_ℤ (pos 1)) ∷ sw 5 1024 12
    ∷ lw 5 1024 13 ∷ addi 5 5 (pos 1) ∷ sw 5 1024 13 ∷ []
-- a word from itself and its neighbour
body Stencil =
    slli 12 7 2 ∷ add 12 12 6
    ∷ lw 5 1020 12 ∷ lw 13 1024 12 ∷ add 5 5 13 ∷ addi 5 5 (pos 1) ∷ sw 5 1024 12 ∷ []
-- a word of each core's own, next to those of the others
body Sharing = slli 12 10 2 ∷ add 12 12 6 ∷ lw 5 1024 12 ∷ addi 5 5 (pos 1) ∷ sw 5 1024 12 ∷ []

-- the loop does its body `number` times, each in a transaction, and goes back over the body and two instructions; then the core halts
unfoldable pub program : Work → ℕ → List Inst
program work number =
    Lui 6 0x80000000 ∷ addi 7 0 (pos number) ∷ []
    ++ body work
    ++ Ecall ∷ addi 7 7 (neg_ℤ (pos 1)) ∷ Branch Bne 7 0 (neg_ℤ (pos (4 * (length (body work) + 2)))) ∷ addi 17 0 (pos 93) ∷ Ecall ∷ []

-- the words of instructions, little-endian (RISC-V Unprivileged ISA, 1.5)
abbrev pub image : List Inst → List ℕ
image = flat_map (λ inst. to_le_bytes w32 (encoding inst))
