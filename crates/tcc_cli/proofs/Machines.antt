-- A machine that was run, and what that is to the start from which it began.
use Rattle.std.proofs.Common.{◌≡◌, ℕ, ◌↔◌, Bool, List, length, map, Some, IsTrue, Result, Ok, Err, IfOk}
use Rattle.std.proofs.Common.{ap, refl, sym, ◌∙◌, subst}
use Rattle.image_load.specs.Contents.{Contents, started}
use Rattle.rv_code.specs.Machine.{program}
use Rattle.theorem_riscv.proofs.Lemmas.{runs_give_the_plain_machine}
use Rattle.theorem_riscv.specs.Given.{IsSerial}
use Rattle.rules_riscv.specs.Starting.{world_at_start}
use Rattle.rules_maps.specs.Nodes as rules
use Rattle.tcc_base.specs.Settings.{IsAllowed}
use Rattle.tcc_msg.specs.Plain.{event_of}
use Rattle.tcc_msg.specs.declared.event.Event.{Event}
use Rattle.rules_tcc.specs.Seen.{IsDone}
use Rattle.rules_tcc.specs.Step.{History, run}
use Rattle.net_core.specs.Machine.{Machine, history_of, settings_of, world_of}
use Rattle.tcc_refine.specs.Refined.{IsRefined, Refined}
use Rattle.tcc_cli.specs.Runs.{EndsBy, RunsTo}
use Rattle.tcc_cli.specs.Schedules.{HasTaken, Ran}
use Rattle.image_load.specs.Start.{Start}

pub runs-to : (r : Refined) (l : Contents) (done : Bool) → IsRefined r → r.machine.cores.code ≡ l
    → IsTrue done ↔ IsDone l.settings (world_of r.machine) → RunsTo (started l) r.taken done (history_of r.machine)
unfolding started history_of
runs-to r l done k code is = record {
  is_run =
      subst (λ c. run c.settings (program (started c)) (world_at_start (started c)) (map event_of r.taken) ≡ Some
      (history_of r.machine)) code
      k.is_run;
  is_done = is;
  serial = subst (λ c. IsSerial (started c) (history_of r.machine)) code k.serial;
}

-- whether it is done
pub done-here : (r : Refined) (m : Machine) (l : Contents) (d : Bool) → m ≡ r.machine → r.machine.cores.code ≡ l
    → IsTrue d ↔ IsDone (settings_of m) (world_of m) → IsTrue d ↔ IsDone l.settings (world_of r.machine)
done-here r m l d is code h =
    subst (λ k. IsTrue d ↔ IsDone k.settings (world_of r.machine)) code
    (subst (λ n. IsTrue d ↔ IsDone (settings_of n) (world_of n)) is h)

-- ---- a machine by itself

serial-of : (l : Contents) (es : List rules.Event) (h : History) → IsAllowed l.settings
    → run l.settings (program (started l)) (world_at_start (started l)) es ≡ Some h → IsSerial (started l) h
unfolding started
serial-of l es h allowed r = rw r at (runs_give_the_plain_machine (started l) es allowed)

-- whichever events lead there are a run with this end
pub ends-by : (m : Machine) (l : Contents) (done : Bool) → IsAllowed l.settings → m.cores.code ≡ l
    → IsTrue done ↔ IsDone (settings_of m) (world_of m) → EndsBy (started l) done (history_of m)
unfolding started history_of
ends-by m l done allowed code is es r = record {
  is_run = r;
  is_done = subst (λ c. IsTrue done ↔ IsDone c.settings (world_of m)) code is;
  serial = serial-of l es (history_of m) allowed r;
}

-- with the list of what it took it is a refined one
pub is-refined : (l : Contents) (m : Machine) (es : List Event) → IsAllowed l.settings → m.cores.code ≡ l
    → run l.settings (program (started l)) (world_at_start (started l)) (map event_of es) ≡ Some (history_of m) → length es ≡ m.events
    → IsRefined (record { machine = m; taken = es })
is-refined l m es allowed code r count = record {
  allowed = subst (λ c. IsAllowed c.settings) (sym code) allowed;
  is_run =
      subst (λ c. run c.settings (program (started c)) (world_at_start (started c)) (map event_of es) ≡ Some (history_of m))
      (sym code) r;
  count = count;
  serial = subst (λ c. IsSerial (started c) (history_of m)) (sym code) (serial-of l (map event_of es) (history_of m) allowed r);
}

-- a refined one has taken its list
pub has-list : (r : Refined) (l : Contents) → IsRefined r → r.machine.cores.code ≡ l
    → HasTaken (started l) (λ (es : List Event). es ≡ r.taken) r.machine
unfolding started
has-list r l k code = record {
  taken = r.taken;
  schedule = refl;
  is_run =
      subst (λ c. run c.settings (program (started c)) (world_at_start (started c)) (map event_of r.taken) ≡ Some
      (history_of r.machine)) code
      k.is_run;
  count = k.count;
}

-- a machine that took such a schedule took one of these
pub taken-by : (s : Start) (P Q : List Event → Type 0) (m : Machine) → HasTaken s P m → ((es : List Event) → P es → Q es) → HasTaken s Q m
taken-by s P Q m t are = record { taken = t.taken; schedule = are t.taken t.schedule; is_run = t.is_run; count = t.count }

-- the run of such a machine, and the text of its end
pub ran-here : {A E : Type 0} (s : Start) (P : List Event → Type 0) (text_of_end : Bool → ℕ → History → List ℕ) (m : Machine)
    (done : A → Bool) (text : A → List ℕ) (x : Result A E) → HasTaken s P m → IfOk x (λ f. EndsBy s (done f) (history_of m))
    → IfOk x (λ f. text f ≡ text_of_end (done f) m.events (history_of m)) → IfOk x (λ f. Ran s P text_of_end (done f) (text f))
ran-here s P text_of_end m done text (Ok f) t ends told = record {
  events = t.taken;
  ends = history_of m;
  schedule = t.schedule;
  runs = ends (map event_of t.taken) t.is_run;
  text_is = told ∙ ap (λ n. text_of_end (done f) n (history_of m)) (sym t.count);
}
ran-here s P text_of_end m done text (Err e) t ends told = tt

-- of the machine that is read
pub runs-here : {A E : Type 0} (s : Start) (r : Refined) (m : Machine) (done : A → Bool) (x : Result A E) → m ≡ r.machine
    → HasTaken s (λ (es : List Event). es ≡ r.taken) r.machine → IfOk x (λ f. EndsBy s (done f) (history_of m))
    → IfOk x (λ f. RunsTo s r.taken (done f) (history_of r.machine))
runs-here s r m done (Ok f) is t ends =
    let there : EndsBy s (done f) (history_of r.machine) = subst (λ n. EndsBy s (done f) (history_of n)) is ends in
    subst (λ (es : List Event). RunsTo s es (done f) (history_of r.machine)) t.schedule (there (map event_of t.taken) t.is_run)
runs-here s r m done (Err e) is t ends = tt

pub text-here : {A E : Type 0} (s : Start) (text_of_end : Bool → ℕ → History → List ℕ) (r : Refined) (m : Machine) (done : A → Bool)
    (text : A → List ℕ) (x : Result A E) → m ≡ r.machine → length r.taken ≡ r.machine.events
    → IfOk x (λ f. text f ≡ text_of_end (done f) m.events (history_of m))
    → IfOk x (λ f. text f ≡ text_of_end (done f) (length r.taken) (history_of r.machine))
text-here s text_of_end r m done text (Ok f) is count told =
    told ∙ ap (λ n. text_of_end (done f) n.events (history_of n)) is
    ∙ ap (λ k. text_of_end (done f) k (history_of r.machine)) (sym count)
text-here s text_of_end r m done text (Err e) is count told = tt
