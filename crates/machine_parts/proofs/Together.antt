-- Parts each of which may be, and whose TIDs are in one place each, are sound together.
use Rattle.std.proofs.Common.{◌≡◌, ◌+◌, ◌*◌, ◌^◌, ◌≤◌, ℕ, Bool, sym, subst}
use Rattle.std.specs.Prelude.{◌↔◌, IfOk, IsTrue, Result, Ok, Err}
use Rattle.tcc_base.specs.Settings.{Settings}
use Rattle.machine_cores.specs.Bank.{cores_of}
use Rattle.machine_dirs.specs.Bank.{dirs_of}
use Rattle.machine_links.specs.Flights.{is_ready, net_of}
use Rattle.theorem_serial.specs.Owners.{holder}
use Rattle.theorem_serial.specs.Pairs.{pair, share}
use Rattle.theorem_bounds.specs.Bounds.{most_sent}
use Rattle.theorem_sound.specs.Sound.{Sound}
use Rattle.machine_parts.specs.Cores.{IsGoodCore}
use Rattle.machine_parts.specs.Directories.{IsGoodDirectory, SharersExist}
use Rattle.machine_parts.specs.Links.{IsGoodTraffic, Traffic}
use Rattle.machine_parts.specs.Parts.{AreParts, PartsData}
use Rattle.machine_parts.specs.Tids.{AreSingle}
use Rattle.machine_parts.specs.Together.{AreSound, history_by, world_by}

abbrev pub traffic_by : PartsData → Traffic
traffic_by p = record {
  net = net_of p.flights;
  ready = is_ready p.flights;
  next = p.next;
  most = p.events * most_sent p.cores.code.settings;
}

pub record EachMayBe (p : PartsData) : Type 0 where
  pub least : 1 ≤ p.next
  pub most : p.next ≤ p.events + 1
  pub cores : (c : ℕ) → IsGoodCore p.cores.code.settings p.events (cores_of p.cores c)
  pub dirs : (ram : ℕ → ℕ) (d : ℕ) → IsGoodDirectory p.dirs.settings d (dirs_of ram p.dirs d)
  pub traffic : IsGoodTraffic p.cores.code.settings (traffic_by p)
  pub single : AreSingle p.cores.code.settings.cores (cores_of p.cores) (net_of p.flights) p.commits.list p.next

sound-by : (p : PartsData) → p.dirs.settings ≡ p.cores.code.settings → EachMayBe p → (ram : ℕ → ℕ)
    → Sound p.cores.code.settings p.events (history_by ram p)
unfolding history_by world_by holder pair share
sound-by p same e ram = record {
  next_least = e.least;
  next_most = e.most;
  links = λ s d. (e.traffic s d).short;
  messages = λ s d k m f. ((e.traffic s d).messages k m f).0;
  attempts = λ c. (e.cores c).attempt;
  marks = λ c. (e.cores c).marks;
  ends = λ c. (e.cores c).ends;
  lines = λ d. (subst (λ sh. IsGoodDirectory sh d (dirs_of ram p.dirs d)) same (e.dirs ram d)).lines;
  serves = λ d. (e.dirs ram d).serves;
  once = e.single;
}

pub sound-of : (p : PartsData) → AreParts p → p.events ≤ 2 ^ 40 → EachMayBe p → AreSound p
sound-of p parts few e = record {
  parts = parts;
  few = few;
  sound = sound-by p parts.dirs e;
  ready = λ s d k m f. ((e.traffic s d).messages k m f).1;
  sharers = λ ram d. subst (λ sh. SharersExist sh (dirs_of ram p.dirs d).lines) parts.dirs (e.dirs ram d).sharers;
}

-- and only those
pub each-of : (p : PartsData) → AreSound p → EachMayBe p
unfolding history_by world_by holder pair share
each-of p s =
    let any : Sound p.cores.code.settings p.events (history_by (λ a. 0) p) = s.sound (λ a. 0) in
    record {
      least = any.next_least;
      most = any.next_most;
      cores = λ c. record { attempt = any.attempts c; marks = any.marks c; ends = any.ends c };
      dirs = λ ram d. subst (λ sh. IsGoodDirectory sh d (dirs_of ram p.dirs d)) (sym s.parts.dirs)
          (record { lines = (s.sound ram).lines d; sharers = s.sharers ram d; serves = (s.sound ram).serves d });
      traffic = λ a b. record { messages = λ k m f. (any.messages a b k m f, s.ready a b k m f); short = any.links a b };
      single = any.once;
    }

-- the traffic as the code tests it, by its own numbers
abbrev pub IsTested : PartsData → (sh : Settings) → (next most : ℕ) → Type 0
IsTested p sh n m = IsGoodTraffic sh (record { net = net_of p.flights; ready = is_ready p.flights; next = n; most = m })

pub tested : (p : PartsData) (sh : Settings) (n m : ℕ) → sh ≡ p.cores.code.settings → n ≡ p.next
    → m ≡ p.events * most_sent p.cores.code.settings → IsTested p sh n m → IsGoodTraffic p.cores.code.settings (traffic_by p)
tested p sh n m config next most t =
    subst (λ k. IsTested p p.cores.code.settings p.next k) most
    (subst (λ k. IsTested p p.cores.code.settings k m) next (subst (λ k. IsTested p k n m) config t))

pub to-test : (p : PartsData) (sh : Settings) (n m : ℕ) → sh ≡ p.cores.code.settings → n ≡ p.next
    → m ≡ p.events * most_sent p.cores.code.settings → IsGoodTraffic p.cores.code.settings (traffic_by p) → IsTested p sh n m
to-test p sh n m config next most t =
    subst (λ k. IsTested p k n m) (sym config)
    (subst (λ k. IsTested p p.cores.code.settings k m) (sym next) (subst (λ k. IsTested p p.cores.code.settings p.next k) (sym most) t))

pub sound-if : {E : Type 0} → (r : Result Bool E) (P Q : Type 0) → IfOk r (λ b. IsTrue b ↔ P) → (P → Q) → (Q → P)
    → IfOk r (λ b. IsTrue b ↔ Q)
sound-if (Ok b) P Q h f g = (λ t. f (h.0 t), λ q. h.1 (g q))
sound-if (Err e) P Q h f g = tt
