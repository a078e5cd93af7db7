-- A machine with what was sent held in another way: the same messages are in flight.
use Rattle.std.proofs.Common.{◌≡◌, ℕ, List, [], refl, ap, sym, ◌∙◌, subst}
use Rattle.image_load.specs.Start.{first_ram}
use Rattle.tcc_base.specs.declared.names.NodeId.{NodeId}
use Rattle.rules_maps.specs.Bridge.{node_of}
use Rattle.rules_maps.specs.Nodes.{Node}
use Rattle.tcc_msg.specs.Plain.{sends_of}
use Rattle.tcc_msg.specs.declared.msg.Msg.{Msg}
use Rattle.rules_tcc.specs.Links.{sending}
use Rattle.rules_tcc.specs.State.{Link, World}
use Rattle.rules_tcc.specs.Step.{History}
use Rattle.machine_dirs.specs.Bank.{dirs_of}
use Rattle.machine_links.specs.Flights.{Flights, net_of}
use Rattle.net_core.specs.Delivery.{AllMayGo, AreMarked}
use Rattle.net_core.specs.Machine.{Machine, history_of, start_of, world_of}
use Rattle.net_core.specs.Whole.{IsWhole}
use Rattle.net_core.proofs.Keeping.{may-all-go, settled-net, sound-same}

-- these flights, and these messages that don't stand on their links
abbrev pub with_flights : Machine → Flights → List (NodeId × Msg) → Machine
with_flights m f xs = record m { flights = f; unsent = xs }

abbrev pub net_with : Machine → Flights → List (NodeId × Msg) → Node → Node → Link
net_with m f xs = sending (net_of f) (node_of m.sender) (sends_of xs)

pub flown-history : (m : Machine) (f : Flights) (xs : List (NodeId × Msg)) → net_with m f xs ≡ net_with m m.flights m.unsent
    → history_of (with_flights m f xs) ≡ history_of m
unfolding history_of world_of
flown-history m f xs net = ap (λ n. the_history (record (world_of m) { net = n })) net
  where
    the_history : World → History
    the_history w = record { world = w; commits = m.commits }

-- what doesn't stand on its link may go
pub unsent-may-go : (m : Machine) → IsWhole m → AllMayGo m.dirs.settings (net_with m m.flights m.unsent)
unfolding world_of
unsent-may-go m w = subst (λ s. AllMayGo s (net_with m m.flights m.unsent)) (sym w.dirs) (may-all-go m w)

pub flown-whole : (m : Machine) (f : Flights) (xs : List (NodeId × Msg)) → IsWhole m → net_with m f xs ≡ net_with m m.flights m.unsent
    → f.cores ≡ m.flights.cores → f.dirs ≡ m.flights.dirs
    → ((ram : ℕ → ℕ) → AreMarked m.dirs.settings (dirs_of ram m.dirs) m.flights → AreMarked m.dirs.settings (dirs_of ram m.dirs) f)
    → IsWhole (with_flights m f xs)
flown-whole m f xs w net cores dirs marked = record {
  allowed = w.allowed;
  dirs = w.dirs;
  flight_cores = cores ∙ w.flight_cores;
  flight_dirs = dirs ∙ w.flight_dirs;
  sound = sound-same m (with_flights m f xs) w.sound (flown-history m f xs net) refl refl;
  few = w.few;
  marked = subst (λ s. AreMarked s (dirs_of (first_ram (start_of m)) m.dirs) f) w.dirs
      (marked (first_ram (start_of m))
      (subst (λ s. AreMarked s (dirs_of (first_ram (start_of m)) m.dirs) m.flights) (sym w.dirs) w.marked));
}

-- where all that was sent stands on its links, these are the machine's
pub settled-links : (m now : Machine) → m ≡ now → now.unsent ≡ [] → net_of m.flights ≡ (world_of now).net
settled-links m now v e = sym (settled-net m (ap (λ n. n.unsent) v ∙ e)) ∙ ap (λ n. (world_of n).net) v
