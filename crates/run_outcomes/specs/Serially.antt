-- A search through the states of the plain machine: which are reached, and what it means that none is left out.
use Rattle.std.specs.Prelude.{ℕ, List, IfSome, IsSomeAnd, All, Contains, ◌≡◌}
use Rattle.rules_program.specs.Plain.{Plain, Order, transaction, serial}
use Rattle.rules_program.specs.Program.{Program}

-- whatever the core's next transaction from this machine is, the machine after it is one of these
unfoldable pub IsFollowed : (base : ℕ) → Program → List Plain → Plain → (core : ℕ) → Type 0
IsFollowed base p machines m core = (n : ℕ) → IfSome (transaction base p m core n) (λ r. Contains machines r.0)

-- and so for each core of each of these machines
abbrev pub AreFollowed : (base : ℕ) → Program → List Plain → List Plain → Type 0
AreFollowed base p machines some = All (λ m. (core : ℕ) → IsFollowed base p machines m core) some

-- each serial execution from this machine ends in one of these
abbrev pub HasEveryEnd : (base : ℕ) → Program → List Plain → Plain → Type 0
HasEveryEnd base p machines m = (last : ℕ) (orders : List Order) → IfSome (serial base p last orders m) (λ r. Contains machines r.0)

-- a serial execution leads from the one machine to the other
abbrev pub IsReached : (base : ℕ) → Program → (from to : Plain) → Type 0
IsReached base p from to = (orders : List Order) × IsSomeAnd (serial base p 0 orders from) (λ r. to ≡ r.0)
