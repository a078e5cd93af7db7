-- The instruction formats: where the fields of an instruction lie in its word
-- (RISC-V Unprivileged ISA, 2.2 Base Instruction Formats, and 2.3 Immediate Encoding Variants).
use Rattle.std.specs.Prelude.{ℕ, ℤ, ◌+◌, ◌*◌, ◌^◌}
use Rattle.rv_decode.specs.Bits.{bits, signed, pattern}

-- the fields that all formats share
abbrev pub opcode_of : ℕ → ℕ
opcode_of w = bits w 6 0

abbrev pub rd_of : ℕ → ℕ
rd_of w = bits w 11 7

abbrev pub funct3_of : ℕ → ℕ
funct3_of w = bits w 14 12

abbrev pub rs1_of : ℕ → ℕ
rs1_of w = bits w 19 15

abbrev pub rs2_of : ℕ → ℕ
rs2_of w = bits w 24 20

abbrev pub funct7_of : ℕ → ℕ
funct7_of w = bits w 31 25

-- the two parts of funct7 in an atomic access: which it is, and acquire and release
abbrev pub funct5_of : ℕ → ℕ
funct5_of w = bits w 31 27

abbrev pub order_of : ℕ → ℕ
order_of w = bits w 26 25

-- the immediate of each format, sign-extended but for U
abbrev pub imm_i : ℕ → ℤ
imm_i w = signed 12 (bits w 31 20)

abbrev pub imm_s : ℕ → ℤ
imm_s w = signed 12 (bits w 31 25 * 2 ^ 5 + bits w 11 7)

abbrev pub imm_b : ℕ → ℤ
imm_b w = signed 13 (bits w 31 31 * 2 ^ 12 + bits w 7 7 * 2 ^ 11 + bits w 30 25 * 2 ^ 5 + bits w 11 8 * 2)

abbrev pub imm_u : ℕ → ℕ
imm_u w = bits w 31 12 * 2 ^ 12

abbrev pub imm_j : ℕ → ℤ
imm_j w = signed 21 (bits w 31 31 * 2 ^ 20 + bits w 19 12 * 2 ^ 12 + bits w 20 20 * 2 ^ 11 + bits w 30 21 * 2)

-- the word of each format that has these fields
abbrev pub r_type : ℕ → ℕ → ℕ → ℕ → ℕ → ℕ → ℕ
r_type opcode funct3 funct7 rd rs1 rs2 =
    opcode + rd * 2 ^ 7 + funct3 * 2 ^ 12 + rs1 * 2 ^ 15 + rs2 * 2 ^ 20 + funct7 * 2 ^ 25

-- an atomic access to a word
abbrev pub a_type : ℕ → ℕ → ℕ → ℕ → ℕ → ℕ
a_type funct5 order rd rs1 rs2 = r_type 0b0101111 0b010 (funct5 * 2 ^ 2 + order) rd rs1 rs2

abbrev pub i_type : ℕ → ℕ → ℕ → ℕ → ℤ → ℕ
i_type opcode funct3 rd rs1 imm =
    opcode + rd * 2 ^ 7 + funct3 * 2 ^ 12 + rs1 * 2 ^ 15 + pattern 12 imm * 2 ^ 20

abbrev pub s_type : ℕ → ℕ → ℕ → ℕ → ℤ → ℕ
s_type opcode funct3 rs1 rs2 imm =
    let p = pattern 12 imm in
    opcode + bits p 4 0 * 2 ^ 7 + funct3 * 2 ^ 12 + rs1 * 2 ^ 15 + rs2 * 2 ^ 20 + bits p 11 5 * 2 ^ 25

abbrev pub b_type : ℕ → ℕ → ℕ → ℕ → ℤ → ℕ
b_type opcode funct3 rs1 rs2 imm =
    let p = pattern 13 imm in
    opcode + bits p 11 11 * 2 ^ 7 + bits p 4 1 * 2 ^ 8 + funct3 * 2 ^ 12 + rs1 * 2 ^ 15 + rs2 * 2 ^ 20
    + bits p 10 5 * 2 ^ 25 + bits p 12 12 * 2 ^ 31

abbrev pub u_type : ℕ → ℕ → ℕ → ℕ
u_type opcode rd imm = opcode + rd * 2 ^ 7 + imm

abbrev pub j_type : ℕ → ℕ → ℤ → ℕ
j_type opcode rd imm =
    let p = pattern 21 imm in
    opcode + rd * 2 ^ 7 + bits p 19 12 * 2 ^ 12 + bits p 11 11 * 2 ^ 20 + bits p 10 1 * 2 ^ 21 + bits p 20 20 * 2 ^ 31
