-- Where the events of a run lead to from what was loaded.
use Rattle.std.proofs.Common.{ℕ, ◌≡◌, ◌↔◌, Bool, List, IsTrue, Some, ap, subst, ◌∙◌}
use Rattle.image_load.specs.Contents.{Contents, started}
use Rattle.image_load.specs.Start.{Start}
use Rattle.rv_code.specs.Machine.{program}
use Rattle.theorem_riscv.specs.Given.{IsSerial}
use Rattle.rules_riscv.specs.Starting.{world_at_start, at_start}
use Rattle.theorem_riscv.proofs.Lemmas.{runs_give_the_plain_machine}
use Rattle.tcc_base.specs.Settings.{IsAllowed}
use Rattle.rules_maps.specs.Nodes.{Event}
use Rattle.rules_tcc.specs.Seen.{IsDone}
use Rattle.rules_tcc.specs.State.{World}
use Rattle.rules_tcc.specs.Step.{History, run}
use Rattle.net_core.specs.Machine.{Machine, history_of, settings_of, start_of, world_of}
use Rattle.watch_count.specs.Counts.{Counts}
use Rattle.watch_run.specs.Forgetting.{IsKeptOf}
use Rattle.watch_run.specs.Looked.{HasCounted, IsCounted}
use Rattle.watch_run.specs.Written.{LeadsTo}

-- the start of a machine is that of what was loaded, and its state the first one
pub record StartsAt (c : Contents) (m : Machine) : Type 0 where
  pub code : m.cores.code ≡ c
  pub first : history_of m ≡ at_start (started c)

pub world-first : (c : Contents) (m : Machine) → StartsAt c m → world_of m ≡ world_at_start (started c)
unfolding history_of
world-first c m s = ap (λ h. h.world) s.first

-- what comes for the machine is what comes at the start
pub coming-first : (coming : Start → World → List Event) (c : Contents) (m : Machine) → StartsAt c m
    → coming (start_of m) (world_of m) ≡ coming (started c) (world_at_start (started c))
coming-first coming c m s = λ i. coming (started (s.code i)) (world-first c m s i)

serial-of : (c : Contents) (es : List Event) (h : History) → IsAllowed c.settings
    → run c.settings (program (started c)) (world_at_start (started c)) es ≡ Some h → IsSerial (started c) h
unfolding started
serial-of c es h allowed r = rw r at (runs_give_the_plain_machine (started c) es allowed)

-- where the events led of whose history the machine keeps what is asked for
pub leads-kept : (c : Contents) (es : List Event) (m : Machine) (ends : History) (done : Bool) → IsAllowed c.settings
    → run c.settings (program (started c)) (world_at_start (started c)) es ≡ Some ends → IsKeptOf c.settings (history_of m) ends
    → m.cores.code ≡ c → (IsTrue done ↔ IsDone (settings_of m) (world_of m)) → LeadsTo (started c) es done ends
unfolding history_of started
leads-kept c es m ends done allowed ran kept code is = record {
  is_run = ran;
  is_done = subst (λ w. IsTrue done ↔ IsDone c.settings w) kept.world
      (subst (λ k. IsTrue done ↔ IsDone k.settings (world_of m)) code is);
  serial = serial-of c es ends allowed ran;
}

-- and where a count did
pub leads-counted : (c : Contents) (es : List Event) (m : Machine) (counts : Counts) (done : Bool) → IsAllowed c.settings
    → (h : HasCounted c es m counts) → (IsTrue done ↔ IsDone (settings_of m) (world_of m)) → LeadsTo (started c) es done h.ends
leads-counted c es m counts done allowed h is = leads-kept c es m h.ends done allowed h.ran h.kept h.code is

pub is-counted : (c : Contents) (es : List Event) (m : Machine) (counts : Counts) (done : Bool) (events : ℕ) → IsAllowed c.settings
    → HasCounted c es m counts → (IsTrue done ↔ IsDone (settings_of m) (world_of m)) → events ≡ m.events
    → IsCounted (started c) es done events counts
is-counted c es m counts done events allowed h is n = record {
  ends = h.ends;
  leads = leads-counted c es m counts done allowed h is;
  all = n ∙ h.events;
  counted = h.counted;
}

-- a machine at its start is counted to the end to which what was loaded is
pub counted-there : (c : Contents) (m : Machine) (es fs : List Event) (done : Bool) (events : ℕ) (counts : Counts) → StartsAt c m
    → es ≡ fs → IsCounted (start_of m) es done events counts → IsCounted (started c) fs done events counts
counted-there c m es fs done events counts s e h =
    subst (λ k. IsCounted (started k) fs done events counts) s.code (subst (λ xs. IsCounted (start_of m) xs done events counts) e h)
