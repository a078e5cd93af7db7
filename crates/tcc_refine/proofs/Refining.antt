-- A machine that the rules lead to is a serial execution, and is led to by one event more after it.
use Rattle.std.proofs.Common.{◌≡◌, ◌+◌, List, [], ◌∷◌, ◌++◌, length, map, Some, refl, ap, sym, ◌∙◌, subst, arith}
use Rattle.std.proofs.lemmas.List.{map-append}
use Rattle.image_load.specs.Contents.{Contents, started}
use Rattle.rv_code.specs.Machine.{program}
use Rattle.theorem_riscv.specs.Given.{IsSerial}
use Rattle.rules_riscv.specs.Starting.{world_at_start, at_start}
use Rattle.theorem_riscv.proofs.Lemmas.{runs_give_the_plain_machine}
use Rattle.tcc_base.specs.Settings.{IsAllowed}
use Rattle.rules_maps.specs.Nodes.{Event}
use Rattle.tcc_msg.specs.Plain.{event_of}
use Rattle.tcc_msg.specs.declared.event.Event.{Event as CodeEvent}
use Rattle.rules_tcc.specs.Step.{History, next_history, run, run_from}
use Rattle.net_core.specs.Machine.{Machine, history_of, program_of, settings_of, start_of}
use Rattle.net_core.proofs.Lemmas.{run-on}
use Rattle.tcc_refine.specs.Refined.{IsRefined, IsRunOf}

serial-of : (c : Contents) (es : List Event) (h : History) → IsAllowed c.settings
    → run c.settings (program (started c)) (world_at_start (started c)) es ≡ Some h → IsSerial (started c) h
unfolding started
serial-of c es h allowed r = rw r at (runs_give_the_plain_machine (started c) es allowed)

-- a run makes a machine refined
pub refined-by : (m : Machine) (taken : List CodeEvent) → IsAllowed (settings_of m) → IsRunOf m taken → length taken ≡ m.events
    → IsRefined (record { machine = m; taken = taken })
refined-by m taken allowed r count = record {
  allowed = allowed;
  is_run = r;
  count = count;
  serial = serial-of m.cores.code (map event_of taken) (history_of m) allowed r;
}

-- at the start
pub run-first : (c : Contents) (m : Machine) → m.cores.code ≡ c → history_of m ≡ at_start (started c) → IsRunOf m []
unfolding run run_from
run-first c m code e =
    ap (λ k. Some (at_start (started k))) code ∙ ap (λ h. Some h) (sym e)

one-longer : (xs : List CodeEvent) (e : CodeEvent) → length (xs ++ e ∷ []) ≡ length xs + 1
one-longer [] e = refl
one-longer (x ∷ xs) e = let r = one-longer xs e in omega (arith, r)

-- one event more
pub run-more : (m n : Machine) (taken : List CodeEvent) (e : CodeEvent) → IsRunOf m taken
    → next_history (settings_of m) (program_of m) (history_of m) (event_of e) ≡ Some (history_of n) → n.cores.code ≡ m.cores.code
    → IsRunOf n (taken ++ e ∷ [])
run-more m n taken e r step code =
    subst (λ c. run c.settings (program (started c)) (world_at_start (started c)) (map event_of (taken ++ e ∷ [])) ≡ Some (history_of n))
    (sym code)
    (ap (run (settings_of m) (program_of m) (world_at_start (start_of m))) (map-append event_of taken (e ∷ []))
    ∙ run-on (settings_of m) (program_of m) (world_at_start (start_of m)) (map event_of taken) (event_of e) (history_of m) r ∙ step)

-- the same state
pub run-same : (m n : Machine) (taken : List CodeEvent) → IsRunOf m taken → history_of n ≡ history_of m → n.cores.code ≡ m.cores.code
    → IsRunOf n taken
run-same m n taken r same code =
    subst (λ c. run c.settings (program (started c)) (world_at_start (started c)) (map event_of taken) ≡ Some (history_of n)) (sym code)
    (r ∙ ap (λ h. Some h) (sym same))

pub count-more : (m n : Machine) (taken : List CodeEvent) (e : CodeEvent) → length taken ≡ m.events → n.events ≡ m.events + 1
    → length (taken ++ e ∷ []) ≡ n.events
count-more m n taken e a b = let c = one-longer taken e in omega (arith, a, b, c)
