-- All that the machines know of an instruction set: what the instruction at a core's present state needs, and the state
-- after it. A fetch fault, an unknown word and an access outside RAM are traps here already.
use Rattle.std.specs.Prelude.{ℕ, List, Option, None}
use Rattle.tcc_base.specs.declared.access.Size.{Size}

-- what a core holds beside memory; `reserved` is the word that a load-reserved named
pub record Local : Type 0 where
  pub regs : List ℕ
  pub pc : ℕ
  pub reserved : Option ℕ

-- what a core holds once its transaction has ended: a reservation is a fact of the attempt alone
abbrev pub unreserved : Local → Local
unreserved l = record l { reserved = None }

pub data Need : Type 0 where
  Nothing : Need
  Loads : (addr : ℕ) → (size : Size) → Need
  Stores : (addr : ℕ) → (size : Size) → (value : ℕ) → Need
  -- one word is read, changed and written at once
  Changes : (addr : ℕ) → (changed : ℕ → ℕ) → Need
  Prints : (byte : ℕ) → Need
  Ends : Need
  Halts : (code : ℕ) → Need
  Traps : (code : ℕ) → Need

-- `after` is given the loaded bytes, with zeros above, exactly where the need loads
pub record Program : Type 0 where
  pub need : Local → Need
  pub after : Local → Option ℕ → Local
