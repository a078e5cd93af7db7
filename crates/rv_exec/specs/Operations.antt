-- What the operations on registers give, as numbers.
use Rattle.std.specs.Prelude.{ℕ, ℤ, pos, Bool, ◌+◌, ◌-◌, ◌*◌, ◌/◌, ◌%◌, ◌^◌, ◌==◌, ◌-ℤ◌, ◌*ℤ◌, bit_and, bit_or, bit_xor, nat_lt, not}
use Rattle.std.specs.Prelude.{int_lt, int_div, int_rem, if◌then◌else◌}
use Rattle.std.specs.Int.{w8, w16, cast_signed, int_div_euclid}
use Rattle.rv_decode.specs.declared.instruction.AmoOp.{AmoOp}
use Rattle.rv_decode.specs.declared.instruction.AmoOp.TheVariants.{Amoswap, Amoadd, Amoxor, Amoand, Amoor, Amomin, Amomax, Amominu, Amomaxu}
use Rattle.rv_decode.specs.declared.instruction.Cond.{Cond}
use Rattle.rv_decode.specs.declared.instruction.Cond.TheVariants.{Beq, Bne, Blt, Bge, Bltu, Bgeu}
use Rattle.rv_decode.specs.declared.instruction.ImmOp.{ImmOp}
use Rattle.rv_decode.specs.declared.instruction.ImmOp.TheVariants.{Addi, Slti, Sltiu, Xori, Ori, Andi, Slli, Srli, Srai}
use Rattle.rv_decode.specs.declared.instruction.LoadKind.{LoadKind}
use Rattle.rv_decode.specs.declared.instruction.LoadKind.TheVariants.{Lb, Lh, Lw, Lbu, Lhu}
use Rattle.rv_decode.specs.declared.instruction.RegOp.{RegOp}
use Rattle.rv_decode.specs.declared.instruction.RegOp.TheVariants.{Add, Sub, Sll, Slt, Sltu, Xor, Srl, Sra, Or, And, Mul, Mulh, Mulhsu}
use Rattle.rv_decode.specs.declared.instruction.RegOp.TheVariants.{Mulhu, Div, Divu, Rem, Remu}
use Rattle.rv_exec.specs.Words.{signed, word}

-- the low five bits of a word
abbrev pub shift_amount : ℕ → ℕ
shift_amount b = b % 2 ^ 5

-- the high word of a product
abbrev pub high_word : ℤ → ℕ
high_word product = word (int_div_euclid product (pos (2 ^ 32)))

abbrev pub all_ones : ℕ
all_ones = 2 ^ 32 - 1

abbrev pub reg_result : RegOp → ℕ → ℕ → ℕ
-- 2.4.2 Integer Register-Register Operations
reg_result Add a b = (a + b) % 2 ^ 32
reg_result Sub a b = word (pos a -ℤ pos b)
reg_result Sll a b = a * 2 ^ shift_amount b % 2 ^ 32
reg_result Slt a b = (if int_lt (signed a) (signed b) then 1 else 0)
reg_result Sltu a b = (if nat_lt a b then 1 else 0)
reg_result Xor a b = bit_xor a b
reg_result Srl a b = a / 2 ^ shift_amount b
-- the sign is copied into the upper bits: division by the power, rounded down
reg_result Sra a b = word (int_div_euclid (signed a) (pos (2 ^ shift_amount b)))
reg_result Or a b = bit_or a b
reg_result And a b = bit_and a b
-- "M" extension, Multiplication Operations
reg_result Mul a b = a * b % 2 ^ 32
reg_result Mulh a b = high_word (signed a *ℤ signed b)
reg_result Mulhsu a b = high_word (signed a *ℤ pos b)
reg_result Mulhu a b = a * b / 2 ^ 32
-- "M" extension, Division Operations: rounded towards zero, the remainder with the dividend's sign. Division by zero gives
-- all ones and the dividend. The quotient 2^31 of the overflow is -2^31 as a word, and its remainder is zero
reg_result Div a b = (if b == 0 then all_ones else word (int_div (signed a) (signed b)))
reg_result Divu a b = (if b == 0 then all_ones else a / b)
reg_result Rem a b = (if b == 0 then a else word (int_rem (signed a) (signed b)))
reg_result Remu a b = (if b == 0 then a else a % b)

-- 2.4.1 Integer Register-Immediate Instructions: the same operations on the sign-extended immediate
abbrev pub operation_of : ImmOp → RegOp
operation_of Addi = Add
operation_of Slti = Slt
operation_of Sltiu = Sltu
operation_of Xori = Xor
operation_of Ori = Or
operation_of Andi = And
operation_of Slli = Sll
operation_of Srli = Srl
operation_of Srai = Sra

abbrev pub imm_result : ImmOp → ℕ → ℤ → ℕ
imm_result op a imm = reg_result (operation_of op) a (word imm)

-- "A" extension, Atomic Memory Operations: what is stored, by the word as it was and the operand
abbrev pub amo_result : AmoOp → (old operand : ℕ) → ℕ
amo_result Amoswap old operand = operand
amo_result Amoadd old operand = (old + operand) % 2 ^ 32
amo_result Amoxor old operand = bit_xor old operand
amo_result Amoand old operand = bit_and old operand
amo_result Amoor old operand = bit_or old operand
amo_result Amomin old operand = (if int_lt (signed old) (signed operand) then old else operand)
amo_result Amomax old operand = (if int_lt (signed old) (signed operand) then operand else old)
amo_result Amominu old operand = (if nat_lt old operand then old else operand)
amo_result Amomaxu old operand = (if nat_lt old operand then operand else old)

-- 2.5.2 Conditional Branches
abbrev pub holds : Cond → ℕ → ℕ → Bool
holds Beq a b = a == b
holds Bne a b = not (a == b)
holds Blt a b = int_lt (signed a) (signed b)
holds Bge a b = not (int_lt (signed a) (signed b))
holds Bltu a b = nat_lt a b
holds Bgeu a b = not (nat_lt a b)

-- 2.6 Load and Store Instructions: what a load makes of the bytes that it read
abbrev pub extended : LoadKind → ℕ → ℕ
extended Lb bytes = word (cast_signed w8 (bytes % 2 ^ 8))
extended Lh bytes = word (cast_signed w16 (bytes % 2 ^ 16))
extended Lw bytes = bytes
extended Lbu bytes = bytes
extended Lhu bytes = bytes
