-- The whole machine: one event after another, and the commits so far.
use Rattle.std.specs.Prelude.{ℕ, Bool, List, [], ◌∷◌, ◌++◌, Option, Some, None, nat_lt, ◌&&◌, if◌then◌else◌}
use Rattle.tcc_base.specs.declared.access.Commit.{Commit as Noted}
use Rattle.rules_maps.specs.Shape.{Shape}
use Rattle.rules_program.specs.Program.{Program}
use Rattle.rules_tcc.specs.Attempt.{Out}
use Rattle.rules_tcc.specs.CoreEvict.{core_evict}
use Rattle.rules_bus.specs.Commit.{BusStepped}
use Rattle.rules_bus.specs.Exec.{bus_exec, core_changed}
use Rattle.rules_bus.specs.State.{BusWorld, BusEvent, Exec, Evict, Take}
use Rattle.rules_bus.specs.Take.{bus_take}

-- Evict: a way is emptied, as in the directory machine
abbrev pub if_evicted : BusWorld → (core : ℕ) → Option Out → Option BusStepped
if_evicted w c None = None
if_evicted w c (Some o) = Some (core_changed w c o.core)

-- all that the event names exists
unfoldable pub bus_names : Shape → BusEvent → Bool
bus_names sh (Exec c) = nat_lt c sh.cores
bus_names sh (Evict c x y) = nat_lt c sh.cores && (nat_lt x sh.sets && nat_lt y sh.ways)
bus_names sh (Take c) = nat_lt c sh.cores

abbrev pub bus_happens : Shape → Program → BusWorld → BusEvent → Option BusStepped
bus_happens sh p w (Exec c) = bus_exec sh p w c
bus_happens sh p w (Evict c x y) = if_evicted w c (core_evict sh x y (w.cores c))
bus_happens sh p w (Take c) = bus_take sh w c

-- the one state after an event; None: the event isn't enabled
unfoldable pub bus_step : Shape → Program → BusWorld → BusEvent → Option BusStepped
bus_step sh p w e = if bus_names sh e then bus_happens sh p w e else None

-- the state and the commits so far, by rising TID
pub record BusHistory : Type 0 where
  pub world : BusWorld
  pub commits : List Noted

abbrev pub and_noted : Option Noted → List Noted → List Noted
and_noted None cs = cs
and_noted (Some c) cs = cs ++ c ∷ []

abbrev pub recorded : BusHistory → Option BusStepped → Option BusHistory
recorded h None = None
recorded h (Some o) = Some (record { world = o.world; commits = and_noted o.noted h.commits })

unfoldable pub bus_next : Shape → Program → BusHistory → BusEvent → Option BusHistory
bus_next sh p h e = recorded h (bus_step sh p h.world e)

abbrev pub and_then : (BusHistory → Option BusHistory) → Option BusHistory → Option BusHistory
and_then f None = None
and_then f (Some h) = f h

-- the events one after another, each enabled where it comes
unfoldable pub bus_from : Shape → Program → List BusEvent → BusHistory → Option BusHistory
bus_from sh p [] h = Some h
bus_from sh p (e ∷ es) h = and_then (bus_from sh p es) (bus_next sh p h e)

unfoldable pub bus_run : Shape → Program → BusWorld → List BusEvent → Option BusHistory
bus_run sh p w es = bus_from sh p es (record { world = w; commits = [] })
