-- The events that can happen and are worth choosing, in the order in which a chooser counts them, the schedule that it takes, and when the
-- machine is done.
use Rattle.std.specs.Prelude.{ℕ, ◌<◌, ◌≡◌, ◌%◌, Bool, true, false, List, [], ◌∷◌, ◌++◌, map, filter, length, slice_index_or, Option}
use Rattle.std.specs.Prelude.{Some, None, is_some, ◌&&◌}
use Rattle.std.specs.List.{flat_map}
use Rattle.rules_maps.specs.Shape.{Shape}
use Rattle.rules_program.specs.Program.{Program}
use Rattle.rules_tcc.specs.Seen.{numbers}
use Rattle.rules_tcc.specs.State.{Halted}
use Rattle.rules_tcc.specs.Useful.{is_this_set, room}
use Rattle.rules_bus.specs.State.{Bus, Free, Alone, Packet, BusWorld, BusEvent, Exec, Evict, Take}
use Rattle.rules_bus.specs.Step.{BusHistory, bus_step, bus_next}

-- to empty a way is of use where its core waits for room in that set
abbrev pub is_of_use : Shape → Program → BusWorld → BusEvent → Bool
is_of_use sh p w (Exec c) = true
is_of_use sh p w (Evict c x y) = is_this_set (room sh p (w.cores c)) x
is_of_use sh p w (Take c) = true

unfoldable pub bus_is_useful : Shape → Program → BusWorld → BusEvent → Bool
bus_is_useful sh p w e = is_some (bus_step sh p w e) && is_of_use sh p w e

unfoldable pub bus_execs : Shape → List BusEvent
bus_execs sh = map Exec (numbers sh.cores)

unfoldable pub bus_evicts : Shape → List BusEvent
bus_evicts sh = flat_map (λ c. flat_map (λ x. map (λ y. Evict c x y) (numbers sh.ways)) (numbers sh.sets)) (numbers sh.cores)

unfoldable pub bus_takes : Shape → List BusEvent
bus_takes sh = map Take (numbers sh.cores)

-- the useful events: Exec by core, Evict by core, set and way, Take by core
unfoldable pub bus_useful : Shape → Program → BusWorld → List BusEvent
bus_useful sh p w = filter (bus_is_useful sh p w) (bus_execs sh ++ (bus_evicts sh ++ bus_takes sh))

abbrev pub is_packet : Bus → Bool
is_packet Free = false
is_packet (Alone c) = false
is_packet (Packet f left) = true

-- every core has halted, and no packet is on the bus
pub record BusIsDone (sh : Shape) (w : BusWorld) : Type 0 where
  pub halted : (c : ℕ) → c < sh.cores → (w.cores c).phase ≡ Halted
  pub quiet : is_packet w.bus ≡ false

-- the event at r mod m of m useful ones
unfoldable pub bus_chosen : ℕ → List BusEvent → Option BusEvent
bus_chosen r [] = None
bus_chosen r (e ∷ es) = Some (slice_index_or (e ∷ es) (r % length (e ∷ es)) e)

abbrev pub after_event : (BusHistory → List BusEvent) → Option BusHistory → List BusEvent
after_event rest None = []
after_event rest (Some h) = rest h

abbrev pub bus_pick : Shape → Program → BusHistory → (rest : BusHistory → List BusEvent) → Option BusEvent → List BusEvent
bus_pick sh p h rest None = []
bus_pick sh p h rest (Some e) = e ∷ after_event rest (bus_next sh p h e)

-- one event a random word, ending earlier where no event is useful
unfoldable pub bus_picked : Shape → Program → List ℕ → BusHistory → List BusEvent
bus_picked sh p [] h = []
bus_picked sh p (r ∷ rs) h = bus_pick sh p h (bus_picked sh p rs) (bus_chosen r (bus_useful sh p h.world))
