-- What is compared of a schedule that is worked by hand: all that can be told apart from outside, and what may happen next.
use Rattle.std.specs.Prelude.{ℕ, ◌≡◌, ◌/◌, List, [], map, filter, Some, option_map}
use Rattle.tcc_base.specs.declared.access.Commit.{Commit as Noted}
use Rattle.rules_maps.specs.Shape.{Shape}
use Rattle.rules_tcc.specs.Needs.{Codes, needs, entry}
use Rattle.rules_tcc.specs.Rows.{Pairs, changed}
use Rattle.rules_tcc.specs.Seen.{numbers}
use Rattle.rules_tcc.specs.Told.{ToldCore, told_core, first_words}
use Rattle.rules_bus.specs.State.{Bus, Free, Alone, Packet, BusEvent, Exec, Evict, Take, bus_start}
use Rattle.rules_bus.specs.Step.{BusHistory, bus_run}
use Rattle.rules_bus.specs.Useful.{bus_useful}

-- the commits, the cores, the words of memory that aren't as they were loaded, the cores that are still to take the packet, and the
-- useful events
pub record BusTold : Type 0 where
  pub commits : List Noted
  pub cores : List ToldCore
  pub words : Pairs
  pub left : List ℕ
  pub useful : List BusEvent

abbrev pub left_of : Shape → Bus → List ℕ
left_of sh Free = []
left_of sh (Alone c) = []
left_of sh (Packet f left) = filter left (numbers sh.cores)

unfoldable pub bus_told : Shape → Codes → BusHistory → BusTold
bus_told sh codes h = record {
  commits = h.commits;
  cores = map (λ c. told_core sh (h.world.cores c)) (numbers sh.cores);
  words = changed first_words h.world.ram (numbers (sh.ram / 4));
  left = left_of sh h.world.bus;
  useful = bus_useful sh (needs codes) h.world;
}

-- every event is enabled where it comes, and this is told at the end
abbrev pub BusTells : Shape → Codes → List BusEvent → BusTold → Type 0
BusTells sh codes es t = option_map (bus_told sh codes) (bus_run sh (needs codes) (bus_start entry first_words) es) ≡ Some t

-- every event is enabled where it comes, and a core's attempt has loaded these values then, the last one first
abbrev pub Finds : Shape → Codes → List BusEvent → (core : ℕ) → (values : List ℕ) → Type 0
Finds sh codes es c xs =
    option_map (λ h. (h.world.cores c).local.regs) (bus_run sh (needs codes) (bus_start entry first_words) es) ≡ Some xs

abbrev pub e : (core : ℕ) → BusEvent
e c = Exec c

abbrev pub x : (core set way : ℕ) → BusEvent
x c s y = Evict c s y

abbrev pub t : (core : ℕ) → BusEvent
t c = Take c
