-- The way that leads to a state.
use Rattle.std.specs.Prelude.{ℕ, zero, suc, ◌+◌, ◌<◌, ◌≡◌, ◌==◌, if◌then◌else◌, Bool, Option, List, [], ◌∷◌, reverse}
use Rattle.image_load.specs.Contents.{Contents}
use Rattle.run_outcomes.specs.Explored.{way_at}
use Rattle.run_outcomes.specs.declared.search.Edge.{Edge}
use Rattle.run_outcomes.specs.declared.search.Pair.{Pair}
use Rattle.run_outcomes.specs.declared.search.Way.{Way}
use Rattle.run_outcomes.specs.declared.states.Snapshot.{Snapshot}
use Rattle.rules_program.specs.Plain.{Order}

-- what is known of an exploration: the states that were found, in their order, by which transaction each was found, from which
-- state a transaction leads to which, how many transactions were executed and how many didn't end, which was the first of these, and
-- whether all states were found
pub record Explored : Type 0 where
  pub loaded : Contents
  pub states : List Snapshot
  pub ways : List Way
  pub edges : List Edge
  pub transactions : ℕ
  pub endless : ℕ
  pub endless_at : Option Pair
  pub done : Bool

-- these transactions, the last one first, lead from the first state to the one of that number
abbrev pub LeadFrom : (ways : List Way) → (from to : ℕ) → (back : List Way) → Type 0
LeadFrom ways from to [] = from ≡ to
LeadFrom ways from to (w ∷ back) = (0 < to) × (w ≡ way_at ways to) × LeadFrom ways from w.from back

-- transactions as orders, under TIDs from this one on
unfoldable pub orders_from : (tid : ℕ) → List Way → List Order
orders_from tid [] = []
orders_from tid (w ∷ ways) = record { tid = tid; core = w.core.0; n = w.n } ∷ orders_from (tid + 1) ways

-- the transactions by which the state of that number was found and those before it, the last one first, and at most so many
unfoldable pub back_from : (ways : List Way) → (most k : ℕ) → List Way
back_from ways zero k = []
back_from ways (suc most) k = if k == 0 then [] else way_at ways k ∷ back_from ways most (way_at ways k).from

-- the orders that lead from the first state to the one of that number
abbrev pub orders_to : List Way → (k : ℕ) → List Order
orders_to ways k = orders_from 1 (reverse (back_from ways k k))
