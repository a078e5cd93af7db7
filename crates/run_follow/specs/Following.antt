-- Runs in which transactions commit in the order of a list: no core executes but the one whose turn it is, and all other events happen as
-- they do without a list.
use Rattle.std.specs.Prelude.{ℕ, zero, suc, Bool, true, false, List, [], ◌∷◌, length, Option, Some, None, option_map, slice_get, ◌==◌, ◌≡◌}
use Rattle.std.specs.Prelude.{map}
use Rattle.std.specs.List.{find}
use Rattle.image_load.specs.Start.{Start}
use Rattle.rv_code.specs.Machine.{program}
use Rattle.rules_riscv.specs.Starting.{at_start}
use Rattle.tcc_base.specs.declared.access.Commit.{Commit}
use Rattle.rules_maps.specs.Nodes.{Event, Exec, Evict, Deliver}
use Rattle.rules_program.specs.Plain.{Order}
use Rattle.rules_tcc.specs.Step.{History, next_history}
use Rattle.rules_tcc.specs.Useful.{useful}

-- the core of the first order that isn't committed yet; None where all are
abbrev pub turn_of : List Order → List Commit → Option ℕ
turn_of orders commits = option_map (λ o. o.core) (slice_get orders (length commits))

abbrev pub is_turn : Option ℕ → (core : ℕ) → Bool
is_turn None core = false
is_turn (Some turn) core = turn == core

-- no core executes out of turn
unfoldable pub may_come : (turn : Option ℕ) → Event → Bool
may_come turn (Exec core) = is_turn turn core
may_come turn (Evict core set way) = true
may_come turn (Deliver src dst k) = true

-- the first of the useful events that may come
unfoldable pub next_of : (turn : Option ℕ) → (useful : List Event) → Option Event
next_of turn es = find (may_come turn) es

-- the event that comes next
abbrev pub next_in : Start → List Order → History → Option Event
next_in s orders h = next_of (turn_of orders h.commits) (useful s.settings (program s) h.world)

abbrev pub after_event : (rest : History → List Event) → Option History → List Event
after_event rest None = []
after_event rest (Some h) = rest h

abbrev pub comes : Start → History → (rest : History → List Event) → Option Event → List Event
comes s h rest None = []
comes s h rest (Some e) = e ∷ after_event rest (next_history s.settings (program s) h e)

-- the schedule that follows a list from here: so many events, or fewer where none may come
unfoldable pub followed_from : Start → List Order → (most : ℕ) → History → List Event
followed_from s orders zero h = []
followed_from s orders (suc n) h = comes s h (followed_from s orders n) (next_in s orders h)

-- the schedule that follows a list from the start
abbrev pub followed_by : Start → List Order → (most : ℕ) → List Event
followed_by s orders most = followed_from s orders most (at_start s)

-- the commits are those of the list, in order, one for one: the cores and the numbers of instructions
abbrev pub Agree : List Commit → List Order → Type 0
Agree commits orders = map {B = ℕ × ℕ} (λ c. (c.core.0, c.n)) commits ≡ map (λ o. (o.core, o.n)) orders
