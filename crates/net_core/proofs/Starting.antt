-- The first machine is that of the rules' start.
use Rattle.std.proofs.Common.{arith, ◌≡◌, [], get_or, Some, None, ap, sym, ◌∙◌, subst}
use Rattle.image_load.specs.Contents.{Contents, started}
use Rattle.image_load.specs.Start.{first_ram}
use Rattle.tcc_base.specs.Settings.{IsAllowed}
use Rattle.rules_maps.specs.Bridge.{node_of}
use Rattle.tcc_msg.specs.Plain.{sends_of}
use Rattle.rules_tcc.specs.Links.{sending}
use Rattle.rules_tcc.specs.State.{dir_start, start, vendor_start}
use Rattle.theorem_sound.specs.Sound.{Sound}
use Rattle.theorem_sound.proofs.Lemmas.{sound_at_start}
use Rattle.machine_cores.specs.Bank.{cores_of, first_core}
use Rattle.machine_dirs.specs.Bank.{dirs_of}
use Rattle.machine_links.specs.Flights.{net_of}
use Rattle.net_core.specs.Delivery.{AreMarked}
use Rattle.net_core.specs.Machine.{Machine, history_of, settings_of, start_of, world_of}
use Rattle.rules_riscv.specs.Starting.{at_start}
use Rattle.net_core.specs.Whole.{IsSound, IsWhole}
use Rattle.net_core.proofs.Links.Placing.{sending-none}

-- what the parts of the first machine are
pub record IsFirst (c : Contents) (m : Machine) : Type 0 where
  pub allowed : IsAllowed c.settings
  pub code : m.cores.code ≡ c
  pub cores : cores_of m.cores ≡ first_core (started c)
  pub settings : m.dirs.settings ≡ c.settings
  pub dirs : dirs_of (first_ram (started c)) m.dirs ≡ (λ d. dir_start (first_ram (started c)))
  pub next : m.next ≡ 1
  pub flight_cores : m.flights.cores ≡ c.settings.cores
  pub flight_dirs : m.flights.dirs ≡ c.settings.dirs
  pub net : net_of m.flights ≡ (λ src dst. [])
  pub unsent : m.unsent ≡ []
  pub commits : m.commits ≡ []
  pub events : m.events ≡ 0

pub first-history : (c : Contents) (m : Machine) → IsFirst c m → history_of m ≡ at_start (started c)
unfolding history_of world_of start vendor_start
first-history c m f =
    let dirs : dirs_of (first_ram (start_of m)) m.dirs ≡ (λ d. dir_start (first_ram (started c))) =
    ap (λ k. dirs_of (first_ram (started k)) m.dirs) f.code ∙ f.dirs in
    let net : sending (net_of m.flights) (node_of m.sender) (sends_of m.unsent) ≡ (λ src dst. []) =
    (λ i. sending (f.net i) (node_of m.sender) (sends_of (f.unsent i))) ∙ sending-none (λ src dst. []) (node_of m.sender) in
    λ i. record {
      world = record { cores = f.cores i; dirs = dirs i; next = f.next i; net = net i };
      commits = f.commits i;
    }

none-marked : (m : Machine) → net_of m.flights ≡ (λ src dst. [])
    → AreMarked (settings_of m) (dirs_of (first_ram (start_of m)) m.dirs) m.flights
unfolding AreMarked
none-marked m net src dst k x fly = let gone : None ≡ Some x = subst (λ f. get_or (f src dst) k None ≡ Some x) net fly in absurd (cc)

sound-first : (m : Machine) → IsAllowed (settings_of m) → history_of m ≡ at_start (start_of m) → m.events ≡ 0 → IsSound m
unfolding started
sound-first m allowed history events =
    subst (λ k. Sound (settings_of m) k (history_of m)) (sym events)
    (subst (Sound (settings_of m) 0) (sym history) (sound_at_start (start_of m) allowed))

pub first-whole : (c : Contents) (m : Machine) → IsFirst c m → IsWhole m
first-whole c m f = record {
  allowed = subst (λ k. IsAllowed k.settings) (sym f.code) f.allowed;
  dirs = f.settings ∙ ap (λ k. k.settings) (sym f.code);
  flight_cores = f.flight_cores ∙ ap (λ k. k.settings.cores) (sym f.code);
  flight_dirs = f.flight_dirs ∙ ap (λ k. k.settings.dirs) (sym f.code);
  sound = sound-first m (subst (λ k. IsAllowed k.settings) (sym f.code) f.allowed)
      (first-history c m f ∙ ap (λ k. at_start (started k)) (sym f.code)) f.events;
  few = let none = f.events in omega (arith, none);
  marked = none-marked m f.net;
}
