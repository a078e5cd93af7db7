-- What contracts see of a core's registers.
use Rattle.std.specs.Prelude.{ℕ, List, ◌≡◌, length, slice_index}

-- the values of x0 to x31 in this order; x0 is hardwired to zero (RISC-V Unprivileged ISA, 2.1)
pub record IsRegisters (values : List ℕ) : Type 0 where
  pub count : length values ≡ 32
  pub zero_register : slice_index values 0 ≡ 0
