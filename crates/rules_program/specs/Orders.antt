-- A serial execution in two parts.
use Rattle.std.specs.Prelude.{ℕ, List, [], ◌∷◌, ◌++◌, ◌≡◌, Option, Some, None}
use Rattle.tcc_base.specs.declared.access.Commit.{Commit}
use Rattle.rules_program.specs.Plain.{Plain, Order, serial}
use Rattle.rules_program.specs.Program.{Program}

-- the order that a commit carried out
abbrev pub order_of_commit : Commit → Order
order_of_commit c = record { tid = c.tid.0; core = c.core.0; n = c.n }

-- the TID of the last order, or the one before the first
abbrev pub last_tid : ℕ → List Order → ℕ
last_tid last [] = last
last_tid last (o ∷ os) = last_tid o.tid os

abbrev pub with_before : List Commit → Option (Plain × List Commit) → Option (Plain × List Commit)
with_before before None = None
with_before before (Some r) = Some (r.0, before ++ r.1)

-- the commits of a first part, and then those of the rest from the machine after it
abbrev pub joined : Option (Plain × List Commit) → (Plain → Option (Plain × List Commit)) → Option (Plain × List Commit)
joined None more = None
joined (Some x) more = with_before x.1 (more x.0)

-- orders one after another are their first part and then the rest
abbrev pub SerialJoins : Type 0
SerialJoins =
    (base : ℕ) (p : Program) (last : ℕ) (early late : List Order) (m : Plain)
    → serial base p last (early ++ late) m ≡ joined (serial base p last early m) (serial base p (last_tid last early) late)
