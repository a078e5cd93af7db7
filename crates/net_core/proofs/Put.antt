-- A machine that is put together of sound parts goes on from their state.
use Rattle.std.proofs.Common.{◌≡◌, ℕ, ◌≤◌, ◌^◌, [], ap, sym, ◌∙◌, subst}
use Rattle.image_load.specs.Start.{first_ram}
use Rattle.tcc_base.specs.Settings.{IsAllowed}
use Rattle.theorem_sound.specs.Sound.{Sound}
use Rattle.machine_cores.specs.Bank.{cores_of}
use Rattle.machine_dirs.specs.Bank.{dirs_of}
use Rattle.machine_links.specs.Flights.{net_of}
use Rattle.machine_parts.specs.Parts.{PartsData}
use Rattle.machine_parts.specs.Together.{AreSound, history_by, world_by}
use Rattle.net_core.specs.Delivery.{AllMayGo, AreMarked, MayGo}
use Rattle.net_core.specs.Machine.{Machine, history_of, settings_of, start_of, world_of}
use Rattle.net_core.specs.Restored.{IsRestored}
use Rattle.net_core.specs.Whole.{IsSound, IsWhole}
use Rattle.net_core.proofs.Keeping.{may-go, settled-net}

-- the machine of these parts, with what is in flight marked anew
pub record IsPut (p : PartsData) (m : Machine) : Type 0 where
  pub cores : m.cores ≡ p.cores
  pub dirs : m.dirs ≡ p.dirs
  pub next : m.next ≡ p.next
  pub commits : m.commits ≡ p.commits.list
  pub events : m.events ≡ p.events
  pub unsent : m.unsent ≡ []
  pub flight_cores : m.flights.cores ≡ p.flights.cores
  pub flight_dirs : m.flights.dirs ≡ p.flights.dirs
  pub net : net_of m.flights ≡ net_of p.flights
  pub allowed : IsAllowed p.dirs.settings
  pub marked : (ram : ℕ → ℕ) → AreMarked p.dirs.settings (dirs_of ram p.dirs) m.flights

put-history : (p : PartsData) (m : Machine) → IsPut p m → history_of m ≡ history_by (first_ram (start_of m)) p
unfolding history_of world_of history_by world_by
put-history p m w =
    let net : (world_of m).net ≡ net_of p.flights = settled-net m w.unsent ∙ w.net in
    λ i. record {
      world = record {
        cores = cores_of (w.cores i);
        dirs = dirs_of (first_ram (start_of m)) (w.dirs i);
        next = w.next i;
        net = net i;
      };
      commits = w.commits i;
    }

put-sound : (p : PartsData) (m : Machine) → AreSound p → IsPut p m → IsSound m
put-sound p m s w =
    subst (λ c. Sound c.code.settings m.events (history_of m)) (sym w.cores)
    (subst (λ k. Sound p.cores.code.settings k (history_of m)) (sym w.events)
    (subst (Sound p.cores.code.settings p.events) (sym (put-history p m w)) (s.sound (first_ram (start_of m)))))

pub put-whole : (p : PartsData) (m : Machine) → AreSound p → IsPut p m → IsWhole m
put-whole p m s w = record {
  allowed = subst IsAllowed (s.parts.dirs ∙ code) w.allowed;
  dirs = ap (λ d. d.settings) w.dirs ∙ s.parts.dirs ∙ code;
  flight_cores = w.flight_cores ∙ s.parts.flight_cores ∙ ap (λ k. k.cores) code;
  flight_dirs = w.flight_dirs ∙ s.parts.flight_dirs ∙ ap (λ k. k.dirs) code;
  sound = put-sound p m s w;
  few = subst (λ k. k ≤ 2 ^ 40) (sym w.events) s.few;
  marked = subst (λ k. AreMarked k (dirs_of (first_ram (start_of m)) m.dirs) m.flights) (s.parts.dirs ∙ code)
      (subst (λ d. AreMarked p.dirs.settings (dirs_of (first_ram (start_of m)) d) m.flights) (sym w.dirs)
      (w.marked (first_ram (start_of m))));
}
  where
    code : p.cores.code.settings ≡ settings_of m
    code = ap (λ c. c.code.settings) (sym w.cores)

pub put-restored : (p q : PartsData) (m : Machine) → AreSound q → p ≡ q → IsPut p m → IsRestored q m
put-restored p q m s e w = record {
  sound = s;
  code = ap (λ c. c.code) w.cores ∙ ap (λ r. r.cores.code) e;
  history = put-history p m w ∙ ap (history_by (first_ram (start_of m))) e;
  events = w.events ∙ ap (λ r. r.events) e;
  settled = w.unsent;
}

-- what is in flight may go where it goes
pub parts-go : (p : PartsData) → AreSound p → AllMayGo p.dirs.settings (net_of p.flights)
unfolding AllMayGo history_by world_by
parts-go p s = λ src dst k m fly.
    subst (λ sh. MayGo sh src dst m) (sym s.parts.dirs)
    (may-go p.cores.code.settings p.next src dst m ((s.sound (λ a. 0)).messages src dst k m fly))
