-- A machine that has taken the first of some events, and what is so of all of them.
use Rattle.std.proofs.Common.{◌≡◌, ℕ, zero, suc, ◌+◌, ◌<◌, ◌≤◌, List, [], ◌∷◌, ◌++◌, length, map, take, Option, Some, None}
use Rattle.std.proofs.Common.{refl, ap, sym, ◌∙◌, subst, arith}
use Rattle.std.specs.Prelude.{IsSome, get_or}
use Rattle.std.proofs.Math.Seq.{take-length, take-suc}
use Rattle.std.proofs.lemmas.List.{length-take-le, map-append}
use Rattle.image_load.specs.Contents.{Contents, started}
use Rattle.image_load.specs.Start.{Start}
use Rattle.rv_code.specs.Machine.{program}
use Rattle.rules_riscv.specs.Starting.{world_at_start}
use Rattle.tcc_base.specs.Settings.{Settings}
use Rattle.tcc_msg.specs.Plain.{event_of}
use Rattle.tcc_msg.specs.declared.event.Event.{Event}
use Rattle.rules_program.specs.Program.{Program}
use Rattle.rules_tcc.specs.Step.{History, and_then, next_history, recorded, run, run_from}
use Rattle.net_core.specs.Answers.{step_of}
use Rattle.net_core.specs.Machine.{Machine, history_of, program_of, settings_of, start_of}
use Rattle.net_core.proofs.Lemmas.{run-on}
use Rattle.tcc_refine.specs.Refined.{IsRefined, Refined}
use Rattle.tcc_replay.specs.Replayed.{EqualEventsGiveEqualMachines, IsRefusedAt, RunsAreNotRefused, history_by}

-- the first i were taken, from the start of what was loaded
pub record TookFirst (r : Refined) (c : Contents) (es : List Event) (i : ℕ) : Type 0 where
  pub taken : r.taken ≡ take i es
  pub code : r.machine.cores.code ≡ c

first-longer : (es : List Event) (k : ℕ) (d : Event) → k < length es → take (k + 1) es ≡ take k es ++ get_or es k d ∷ []
first-longer es k d there = (let more : k + 1 ≡ suc k = omega arith in ap (λ j. take j es) more) ∙ take-suc es k d there

pub took-more : (r s : Refined) (c : Contents) (es : List Event) (i : ℕ) (d : Event) → TookFirst r c es i → i < length es
    → s.taken ≡ r.taken ++ get_or es i d ∷ [] → s.machine.cores.code ≡ r.machine.cores.code → TookFirst s c es (i + 1)
took-more r s c es i d t there more code = record {
  taken = more ∙ ap (λ xs. xs ++ get_or es i d ∷ []) t.taken ∙ sym (first-longer es i d there);
  code = code ∙ t.code;
}

pub took-none : (r : Refined) (c : Contents) (es : List Event) → r.taken ≡ [] → r.machine.cores.code ≡ c → TookFirst r c es 0
took-none r c es taken code = record { taken = taken ∙ sym (take-none es); code = code }
  where
    take-none : (xs : List Event) → take 0 xs ≡ []
    take-none [] = refl
    take-none (x ∷ xs) = refl

pub took-whole : (r : Refined) (c : Contents) (es : List Event) (i : ℕ) → TookFirst r c es i → i ≡ length es → r.taken ≡ es
took-whole r c es i t e = t.taken ∙ ap (λ k. take k es) e ∙ take-length es

pub took-length : (r : Refined) (c : Contents) (es : List Event) (i : ℕ) → TookFirst r c es i → i ≤ length es → length r.taken ≡ i
took-length r c es i t h = ap length t.taken ∙ length-take-le i es h

-- the history of a machine by its events
reached-by : (r : Refined) (c : Contents) (es : List Event) (i : ℕ) → IsRefined r → TookFirst r c es i
    → history_by (started c) (take i es) ≡ Some (history_of r.machine)
unfolding started
reached-by r c es i k t =
    subst (λ d. history_by (started d) (take i es) ≡ Some (history_of r.machine)) t.code
    (subst (λ xs. history_by (start_of r.machine) xs ≡ Some (history_of r.machine)) t.taken k.is_run)

is-there : (o : Option History) (h : History) → o ≡ Some h → IsSome o
is-there None h e = absurd (cc)
is-there (Some g) h e = refl

no-next : (m : Machine) (e : Event) → step_of m (event_of e) ≡ None
    → next_history (settings_of m) (program_of m) (history_of m) (event_of e) ≡ None
unfolding next_history history_of
no-next m e q = ap (recorded (history_of m)) q

-- what is not enabled after the first i is the first that isn't enabled at its turn
pub refused-here : (r : Refined) (c : Contents) (es : List Event) (i : ℕ) (d : Event) → IsRefined r → TookFirst r c es i → i < length es
    → step_of r.machine (event_of (get_or es i d)) ≡ None → IsRefusedAt (started c) es i
unfolding started
refused-here r c es i d k t there none = let e = get_or es i d in record {
  there = there;
  before = is-there (history_by (started c) (take i es)) (history_of r.machine) (reached-by r c es i k t);
  refused = subst (λ d. history_by (started d) (take (i + 1) es) ≡ None) t.code
      (ap (λ xs. history_by (start_of r.machine) xs) (first-longer es i d there ∙ ap (λ xs. xs ++ e ∷ []) (sym t.taken))
      ∙ ap (run (settings_of r.machine) (program_of r.machine) (world_at_start (start_of r.machine)))
      (map-append event_of r.taken (e ∷ []))
      ∙ run-on (settings_of r.machine) (program_of r.machine) (world_at_start (start_of r.machine)) (map event_of r.taken) (event_of e)
      (history_of r.machine) k.is_run
      ∙ no-next r.machine e none);
}

-- ---- one start and one list of events, one machine

same-history : (g h : History) → Some g ≡ Some h → g ≡ h
same-history g h e = cc

pub one-machine : EqualEventsGiveEqualMachines
unfolding started
one-machine r s k l code taken =
    same-history (history_of r.machine) (history_of s.machine)
    (sym k.is_run ∙ (λ i. history_by (started (code i)) (taken i)) ∙ l.is_run)

-- ---- nothing of a run is refused

stuck-on : (sh : Settings) (p : Program) (es : List Event) (k : ℕ) (h : History) → run_from sh p (map event_of (take k es)) h ≡ None
    → run_from sh p (map event_of es) h ≡ None
unfolding run_from
stuck-on sh p [] zero h e = e
stuck-on sh p [] (suc k) h e = e
stuck-on sh p (x ∷ es) zero h e = absurd (cc)
stuck-on sh p (x ∷ es) (suc k) h e =
    go (next_history sh p h (event_of x)) (λ g. stuck-on sh p es k g) e
  where
    go : (o : Option History)
        → ((g : History) → run_from sh p (map event_of (take k es)) g ≡ None → run_from sh p (map event_of es) g ≡ None)
        → and_then (run_from sh p (map event_of (take k es))) o ≡ None → and_then (run_from sh p (map event_of es)) o ≡ None
    go None rest q = refl
    go (Some g) rest q = rest g q

no-run : (s : Start) (es : List Event) (k : ℕ) → history_by s (take k es) ≡ None → history_by s es ≡ None
unfolding run
no-run s es k e = stuck-on s.settings (program s) es k (record { world = world_at_start s; commits = [] }) e

pub none-refused : RunsAreNotRefused
none-refused s es h i some f =
    let none = no-run s es (i + 1) f.refused in
    absurd (cc)
