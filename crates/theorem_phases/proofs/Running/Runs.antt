-- A run by phases is a run of the rules.
use Rattle.std.specs.Prelude.{◌≡◌, Bool, true, false, List, [], ◌∷◌, Option, Some, None, IfSome, if◌then◌else◌}
use Rattle.std.proofs.Common.{refl}
use Rattle.image_load.specs.Start.{Start}
use Rattle.rv_code.specs.Machine.{program}
use Rattle.rules_maps.specs.Nodes.{Event}
use Rattle.rules_tcc.specs.Step.{History, next_history, and_then, run_from, run}
use Rattle.theorem_phases.specs.Laws.{PhasedRunsAreRuns}
use Rattle.rules_riscv.specs.Starting.{at_start}
use Rattle.rules_phases.specs.Phased.{is_held, phased_next, phased_from}

pub phased-runs : (s : Start) (es : List Event) (h : History)
    → IfSome (phased_from s es h) (λ g. run_from s.settings (program s) es h ≡ Some g)
unfolding phased_from phased_next run_from
phased-runs s [] h = refl
phased-runs s (e ∷ es) h = go (is_held s h e) (next_history s.settings (program s) h e) (phased-runs s es)
  where
    go : (b : Bool) (x : Option History)
        → ((g : History) → IfSome (phased_from s es g) (λ r. run_from s.settings (program s) es g ≡ Some r))
        → IfSome (and_then (phased_from s es) (if b then None else x)) (λ r. and_then (run_from s.settings (program s) es) x ≡ Some r)
    go true x f = tt
    go false None f = tt
    go false (Some g) f = f g

pub phased_runs_are_runs : PhasedRunsAreRuns
unfolding run
phased_runs_are_runs s es = phased-runs s es (at_start s)
