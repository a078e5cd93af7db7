-- What a serial execution does to each core of the plain machine: what its commits print stands behind what the core had printed,
-- and all else is a matter of RAM and of the cores that the orders name.
use Rattle.std.specs.Prelude.{ℕ, List, [], ◌∷◌, ◌++◌, ◌≡◌, ◌==◌, Bool, true, if◌then◌else◌, IfSome, Option, Some, None}
use Rattle.tcc_base.specs.declared.access.Commit.{Commit}
use Rattle.rules_program.specs.Plain.{Plain, PlainCore, Order, serial}
use Rattle.rules_program.specs.Program.{Program}

-- what a core's commits printed, one after another
unfoldable pub printed : (core : ℕ) → List Commit → List ℕ
printed core [] = []
printed core (c ∷ cs) = (if core == c.core.0 then c.console else []) ++ printed core cs

-- each core's console is the one before the execution, and what its commits printed
abbrev pub ConsolesArePrinted : Type 0
ConsolesArePrinted =
    (base : ℕ) (p : Program) (last : ℕ) (os : List Order) (m : Plain) (core : ℕ)
    → IfSome (serial base p last os m) (λ r. (r.0.cores core).console ≡ (m.cores core).console ++ printed core r.1)

-- each order is by a core of a set
unfoldable pub AreBy : (set : ℕ → Bool) → List Order → Type 0
AreBy set [] = Unit {0}
AreBy set (o ∷ os) = (set o.core ≡ true) × AreBy set os

-- two machines have the same RAM, and the same cores in a set
pub record AgreeOn (set : ℕ → Bool) (here there : Plain) : Type 0 where
  pub ram : (w : ℕ) → here.ram w ≡ there.ram w
  pub cores : (c : ℕ) → set c ≡ true → here.cores c ≡ there.cores c

-- a machine with others for its cores outside a set
abbrev pub with_others : (set : ℕ → Bool) → (others : ℕ → PlainCore) → Plain → Plain
with_others set others m = record { ram = m.ram; cores = λ c. if set c then m.cores c else others c }

-- the same of what an execution gives
abbrev pub and_others : (set : ℕ → Bool) → (others : ℕ → PlainCore) → Option (Plain × List Commit) → Option (Plain × List Commit)
and_others set others None = None
and_others set others (Some r) = Some (with_others set others r.0, r.1)

-- From two machines that agree on RAM and on a set with the cores of the orders, an execution gives the same commits, RAM and cores
-- of the set; all other cores stay as they were.
abbrev pub SerialTakesItsCores : Type 0
SerialTakesItsCores =
    (base : ℕ) (p : Program) (last : ℕ) (os : List Order) (set : ℕ → Bool) (here there : Plain) → AreBy set os → AgreeOn set here there
    → serial base p last os there ≡ and_others set there.cores (serial base p last os here)
