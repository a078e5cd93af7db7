-- What the code's plain machine says of orders that it executes one after another.
use Rattle.std.specs.Prelude.{ℕ, List, ◌≡◌, ◌+◌, ◌<◌, ◌≤◌, None, IsSome, IsSomeAnd, map, slice_get, take}
use Rattle.rv_plain.specs.PlainState.{PlainState, plain_of, order_of, serial_of}
use Rattle.rv_plain.specs.declared.plain.Order.{Order as CodeOrder}
use Rattle.rv_plain.specs.declared.plain.SerialFault.{SerialFault}
use Rattle.rv_plain.specs.declared.plain.SerialFault.TheVariants.{NotRising, NotEnding, Memory}
use Rattle.tcc_base.specs.declared.access.Commit.{Commit}
use Rattle.rules_program.specs.Orders.{last_tid}

-- the serial execution of the orders, under TIDs above the last one, has a value, which is the machine afterwards and the commits
abbrev pub Executed : PlainState → (last : ℕ) → List CodeOrder → PlainState → List Commit → Type 0
Executed s last orders after commits = IsSomeAnd (serial_of s last orders) (λ r. (plain_of after ≡ r.0) × (commits ≡ r.1))

-- the TID before order i: the last one before the first order
abbrev pub tid_before : (last : ℕ) → List CodeOrder → ℕ → ℕ
tid_before last orders i = last_tid last (map order_of (take i orders))

-- what an error says: the orders before the one that is named have a serial execution; that one's TID doesn't rise, or it
-- rises and they have none together with it
abbrev pub IsSerialFault : PlainState → (last : ℕ) → List CodeOrder → SerialFault → Type 0
IsSerialFault s last orders (NotRising i) =
    IsSome (serial_of s last (take i orders)) × IsSomeAnd (slice_get orders i) (λ o. o.tid.0 ≤ tid_before last orders i)
IsSerialFault s last orders (NotEnding i) =
    IsSome (serial_of s last (take i orders))
    × IsSomeAnd (slice_get orders i) (λ o. tid_before last orders i < o.tid.0)
    × (serial_of s last (take (i + 1) orders) ≡ None)
IsSerialFault s last orders Memory = Unit {0}
