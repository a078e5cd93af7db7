-- What a core's commits print, as they are noted, is its console in the report.
use Rattle.std.proofs.Common.{◌≡◌, ℕ, ◌<◌, true, List, [], ◌∷◌, ◌++◌, Option, Some, None}
use Rattle.std.proofs.Common.{append-nil, append_assoc, refl, ap, sym, ◌∙◌, arith}
use Rattle.std.proofs.lemmas.Bool.Decides.{nat_tests}
use Rattle.std.specs.Prelude.{IfSome, nat_lt}
use Rattle.image_load.specs.Start.{Start}
use Rattle.rules_maps.specs.Nodes.{Event}
use Rattle.rules_program.specs.Cores.{printed}
use Rattle.rules_riscv.specs.Starting.{world_at_start}
use Rattle.rules_tcc.specs.State.{World}
use Rattle.rules_tcc.specs.Step.{History, Stepped, and_noted, and_then, next_history, recorded, run, run_from, step}
use Rattle.rv_code.specs.Machine.{program}
use Rattle.tcc_base.specs.Settings.{IsAllowed}
use Rattle.tcc_base.specs.declared.access.Commit.{Commit}
use Rattle.theorem_phases.proofs.Lemmas.{IsLast, NotedIn, State, noted-last, run-snoc, state_after, step-notes}
use Rattle.theorem_riscv.specs.Given.{committed, grants_of}
use Rattle.theorem_serial.specs.Owners.{IsRising}
use Rattle.watch_run.specs.Consoles.{if_noted, noted_of, noted_then}
use Rattle.console_law.specs.Told.{ConsolesAreTheReports}
use Rattle.console_law.proofs.Placed.{placed, printed_by}

-- what an event notes stands behind what its core has printed
one-more : (core : ℕ) (h : History) (noted : Option Commit) (more : List Commit) → IsRising 0 h.commits
    → IfSome noted (λ x. IsLast x h.commits)
    → printed core (and_noted noted h.commits) ++ printed core more ≡ printed core h.commits ++ printed core (noted_then noted more)
unfolding printed
one-more core h None more r l = refl
one-more core h (Some x) more r l =
    ap (λ xs. xs ++ printed core more) (placed x 0 core h.commits r l)
    ∙ append_assoc (printed core h.commits) (printed_by core x) (printed core more)

-- the run that has come to this by the first events, and goes on by the others
abbrev After : Start → List Event → History → Type 0
After s es h = run s.settings (program s) (world_at_start s) es ≡ Some h

is-last : (s : Start) (firsts : List Event) (h : History) (noted : Option Commit) → State s (grants_of s firsts) h
    → IfSome noted (NotedIn s.settings h.world) → IfSome noted (λ x. IsLast x h.commits)
is-last s firsts h None k n = tt
is-last s firsts h (Some x) k n = noted-last s (grants_of s firsts) h x k n

state-of : (s : Start) (firsts : List Event) (h : History) → IsAllowed s.settings → After s firsts h → State s (grants_of s firsts) h
state-of s firsts h a e = rw e at (state_after s firsts a)

behind : (s : Start) (firsts : List Event) (e : Event) (h k : History) → After s firsts h
    → next_history s.settings (program s) h e ≡ Some k → After s (firsts ++ e ∷ []) k
unfolding run
behind s firsts e h k r n =
    run-snoc s.settings (program s) firsts e (record { world = world_at_start s; commits = [] })
    ∙ ap (and_then (λ g. next_history s.settings (program s) g e)) r ∙ n

further : (s : Start) (core : ℕ) (firsts es : List Event) (h : History) → IsAllowed s.settings → After s firsts h
    → IfSome (run_from s.settings (program s) es h)
    (λ g. printed core g.commits ≡ printed core h.commits ++ printed core (noted_of s.settings (program s) es h.world))
unfolding run_from noted_of printed next_history
further s core firsts [] h a r = sym (append-nil (printed core h.commits))
further s core firsts (e ∷ es) h a r =
    go (step s.settings (program s) h.world e) refl (step-notes s.settings (program s) h.world e) (further s core (firsts ++ e ∷ []) es)
  where
    later : World → List Commit
    later = noted_of s.settings (program s) es

    Ends : (before : List ℕ) → List Commit → Option History → Type 0
    Ends before more o = IfSome o (λ g. printed core g.commits ≡ before ++ printed core more)

    go : (o : Option Stepped) → step s.settings (program s) h.world e ≡ o → IfSome o (λ t. IfSome t.noted (NotedIn s.settings h.world))
        → ((k : History) → IsAllowed s.settings → After s (firsts ++ e ∷ []) k
        → Ends (printed core k.commits) (later k.world) (run_from s.settings (program s) es k))
        → Ends (printed core h.commits) (if_noted later o) (and_then (run_from s.settings (program s) es) (recorded h o))
    go None q n rest = tt
    go (Some o) q n rest = same (run_from s.settings (program s) es k) (rest k a (behind s firsts e h k r next))
      where
        k : History
        k = record { world = o.world; commits = and_noted o.noted h.commits }

        next : next_history s.settings (program s) h e ≡ Some k
        next = ap (recorded h) q

        now : State s (grants_of s firsts) h
        now = state-of s firsts h a r

        same : (x : Option History) → Ends (printed core k.commits) (later o.world) x
            → Ends (printed core h.commits) (noted_then o.noted (later o.world)) x
        same None f = tt
        same (Some g) f = f ∙ one-more core h o.noted (later o.world) now.rising (is-last s firsts h o.noted now n)

pub consoles-are-the-reports : ConsolesAreTheReports
unfolding run run_from committed printed
consoles-are-the-reports s es a = go (run s.settings (program s) (world_at_start s) es) (λ core. further s core [] es at_start a refl)
  where
    at_start : History
    at_start = record { world = world_at_start s; commits = [] }

    go : (o : Option History)
        → ((core : ℕ) → IfSome o (λ g. printed core g.commits ≡ printed core (noted_of s.settings (program s) es (world_at_start s))))
        → IfSome o (λ h. (core : ℕ) → core < s.settings.cores
        → ((committed s h).cores core).console ≡ printed core (noted_of s.settings (program s) es (world_at_start s)))
    go None f = tt
    go (Some h) f = λ core l. let inside : nat_lt core s.settings.cores ≡ true = grind (arith, nat_tests) in rw inside (f core)
