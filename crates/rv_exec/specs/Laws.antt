-- What the program that RV32IMA is does by the instruction table, and what the manual says of quotients and products.
use Rattle.std.specs.Prelude.{ℕ, ℤ, pos, Bool, ◌≡◌, ◌<◌, ◌+◌, ◌-◌, ◌*◌, ◌^◌, ◌+ℤ◌, ◌*ℤ◌, ◌<ℤ◌, ◌≤ℤ◌, unsigned_abs, Option, Some, None}
use Rattle.rv_decode.specs.Table.{Encodes}
use Rattle.rv_decode.specs.declared.instruction.Inst.{Inst}
use Rattle.rv_decode.specs.declared.instruction.RegOp.TheVariants.{Mul, Mulh, Mulhsu, Mulhu, Div, Divu, Rem, Remu}
use Rattle.rv_exec.specs.Effects.{planned, finished}
use Rattle.rv_exec.specs.Operations.{reg_result}
use Rattle.rv_exec.specs.Running.{program, bounded}
use Rattle.rv_exec.specs.Words.{signed}
use Rattle.tcc_base.specs.declared.access.Size.{Size}
use Rattle.rules_program.specs.Program.{Local, Traps}

abbrev pub TrapsWhereNoWordIsFetched : Type 0
TrapsWhereNoWordIsFetched =
    (fetch : ℕ → Option ℕ) (in_ram : ℕ → Size → Bool) (l : Local) →
    fetch l.pc ≡ None → (program fetch in_ram).need l ≡ Traps 1

abbrev pub TrapsOutsideTheTable : Type 0
TrapsOutsideTheTable =
    (fetch : ℕ → Option ℕ) (in_ram : ℕ → Size → Bool) (l : Local) (w : ℕ) →
    fetch l.pc ≡ Some w → w < 2 ^ 32 → ((inst : Inst) → Encodes w inst → ⊥) → (program fetch in_ram).need l ≡ Traps 2

abbrev pub RunsTheTable : Type 0
RunsTheTable =
    (fetch : ℕ → Option ℕ) (in_ram : ℕ → Size → Bool) (l : Local) (w : ℕ) (inst : Inst) (loaded : Option ℕ) →
    fetch l.pc ≡ Some w → Encodes w inst →
    ((program fetch in_ram).need l ≡ bounded in_ram (planned inst l))
    × ((program fetch in_ram).after l loaded ≡ finished inst l loaded)

-- "M" extension, Division Operations, the table of division by zero and division overflow, for operands of 32 bits
pub record DividesAtItsCorners : Type 0 where
  pub divu_by_zero : (a : ℕ) → reg_result Divu a 0 ≡ 2 ^ 32 - 1
  pub remu_by_zero : (a : ℕ) → reg_result Remu a 0 ≡ a
  pub div_by_zero : (a : ℕ) → reg_result Div a 0 ≡ 2 ^ 32 - 1
  pub rem_by_zero : (a : ℕ) → reg_result Rem a 0 ≡ a
  pub div_overflow : reg_result Div (2 ^ 31) (2 ^ 32 - 1) ≡ 2 ^ 31
  pub rem_overflow : reg_result Rem (2 ^ 31) (2 ^ 32 - 1) ≡ 0

-- the dividend is the divisor times the quotient, plus the remainder, which is below the divisor
abbrev pub DividesUnsigned : Type 0
DividesUnsigned = (a b : ℕ) → 0 < b → (reg_result Divu a b * b + reg_result Remu a b ≡ a) × (reg_result Remu a b < b)

-- q and r are the quotient, rounded towards zero, and the remainder: it is smaller than the divisor, and has the dividend's sign
-- where it isn't zero
pub record Divides (x y q r : ℤ) : Type 0 where
  pub equation : q *ℤ y +ℤ r ≡ x
  pub smaller : unsigned_abs r < unsigned_abs y
  pub sign : (pos 0 ≤ℤ x → pos 0 ≤ℤ r) × (x <ℤ pos 0 → r ≤ℤ pos 0)

-- every signed division but that by zero and the one that overflows
abbrev pub DividesSigned : Type 0
DividesSigned =
    (a b : ℕ) → a < 2 ^ 32 → b < 2 ^ 32 → 0 < b → (b ≡ 2 ^ 32 - 1 → a ≡ 2 ^ 31 → ⊥) →
    Divides (signed a) (signed b) (signed (reg_result Div a b)) (signed (reg_result Rem a b))

-- the high word, by the signs of the operands, and the low word are the product
pub record WordsMakeTheProducts : Type 0 where
  pub mulhu : (a b : ℕ) → reg_result Mulhu a b * 2 ^ 32 + reg_result Mul a b ≡ a * b
  pub mulh : (a b : ℕ) → a < 2 ^ 32 → b < 2 ^ 32 →
      signed (reg_result Mulh a b) *ℤ pos (2 ^ 32) +ℤ pos (reg_result Mul a b) ≡ signed a *ℤ signed b
  pub mulhsu : (a b : ℕ) → a < 2 ^ 32 → b < 2 ^ 32 →
      signed (reg_result Mulhsu a b) *ℤ pos (2 ^ 32) +ℤ pos (reg_result Mul a b) ≡ signed a *ℤ pos b
