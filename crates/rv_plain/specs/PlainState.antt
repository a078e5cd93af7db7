-- What the code's plain machine stands for.
use Rattle.std.specs.Prelude.{ℕ, List, ◌≡◌, map, Option, None, IsSomeAnd, slice_index_or}
use Rattle.rv_plain.specs.Cores.{core_of, no_state}
use Rattle.rv_plain.specs.Endings.{IsCoreFault}
use Rattle.image_load.specs.Contents.{Contents, started}
use Rattle.rv_code.specs.Machine.{program}
use Rattle.rv_plain.specs.declared.plain.CoreState.{CoreState}
use Rattle.rv_plain.specs.declared.plain.Done.{Done}
use Rattle.rv_plain.specs.declared.plain.PlainFault.{PlainFault}
use Rattle.rv_plain.specs.declared.plain.PlainFault.TheVariants.{NotEnding, Memory}
use Rattle.rv_plain.specs.declared.plain.Order.{Order as CodeOrder}
use Rattle.tcc_base.specs.declared.access.Commit.{Commit}
use Rattle.rules_program.specs.Plain.{Plain, Attempt, Order, transaction, steps, begun, serial}
use Rattle.rules_program.specs.Ram.{flat}

pub record PlainState : Type 0 where
  pub loaded : Contents
  pub ram : List ℕ
  pub cores : List CoreState

unfoldable pub plain_of : PlainState → Plain
plain_of s = record { ram = flat s.ram; cores = λ c. core_of (slice_index_or s.cores c no_state) }

abbrev pub order_of : CodeOrder → Order
order_of o = record { tid = o.tid.0; core = o.core.0; n = o.n }

-- the definitions at this machine's program
abbrev pub transaction_of : PlainState → (core n : ℕ) → Option (Plain × Attempt)
transaction_of s core n = transaction s.loaded.settings.base (program (started s.loaded)) (plain_of s) core n

abbrev pub steps_of : PlainState → (core n : ℕ) → Option Attempt
steps_of s core n =
    let c = (plain_of s).cores core in
    steps s.loaded.settings.base (program (started s.loaded)) n (begun c.local (flat s.ram))

abbrev pub serial_of : PlainState → (last : ℕ) → List CodeOrder → Option (Plain × List Commit)
serial_of s last orders = serial s.loaded.settings.base (program (started s.loaded)) last (map order_of orders) (plain_of s)

-- a transaction of this machine has a value, which is the machine afterwards and what is answered
abbrev pub Did : PlainState → (core n : ℕ) → PlainState → Done → Type 0
Did s core n after d =
    IsSomeAnd (transaction_of s core n) (λ r.
    (plain_of after ≡ r.0) × (d.loads ≡ r.1.loads) × (d.stores ≡ r.1.stores) × (d.console ≡ r.1.console))

-- what an error of a transaction says
abbrev pub IsPlainFault : PlainState → (core n : ℕ) → PlainFault → Type 0
IsPlainFault s core n fault = IsCoreFault ((plain_of s).cores core).ended (steps_of s core) n fault

-- where an error names an instruction, the instructions aren't a transaction
abbrev pub HasNoTransaction : PlainState → (core n : ℕ) → PlainFault → Type 0
HasNoTransaction s core n (NotEnding k) = transaction_of s core n ≡ None
HasNoTransaction s core n Memory = Unit {0}
