-- A run at whose end the machine isn't done has taken one event for each that it was asked for.
use Rattle.std.proofs.Common.{ℕ, zero, suc, ◌≡◌, ◌<◌, ◌≤◌, List, [], ◌∷◌, length, map, Option, None, Some, refl, sym, ap, subst, ◌∙◌, arith}
use Rattle.std.specs.Prelude.{IfSome, IsSome}
use Rattle.theorem_phases.specs.Laws.{PhasedPickedEndsDone, PhasedPickedRuns, PhasedRunsAreRuns}
use Rattle.rules_riscv.specs.Starting.{at_start, world_at_start}
use Rattle.rules_phases.specs.Phased.{after_event, phased_from, phased_next, phased_picked, phased_useful, pick}
use Rattle.rand_core.specs.Steps.{first_words}
use Rattle.rand_pcg.specs.Lcg.{Lcg}
use Rattle.rand_pcg.specs.Pcg.{pcg32}
use Rattle.rv_code.specs.Machine.{program}
use Rattle.theorem_riscv.specs.Going.{RiscvPickedEndsDone}
use Rattle.rules_tcc.specs.Laws.{PickedEnds}
use Rattle.rules_tcc.specs.Picked.{chosen}
use Rattle.tcc_cli.specs.Laws.{OpenPhasedRunsTakeAllEvents, OpenRunsTakeAllEvents}
use Rattle.tcc_cli.specs.Phased.{phased_by}
use Rattle.tcc_cli.specs.Runs.{IsRun, picked_by}
use Rattle.rules_maps.specs.Nodes as rules
use Rattle.tcc_msg.specs.Plain.{event_of}
use Rattle.tcc_msg.specs.declared.event.Event.{Event}
use Rattle.tcc_pick.specs.Words.{seeded, words}
use Rattle.rules_tcc.specs.Seen.{IsDone}
use Rattle.rules_tcc.specs.Step.{History}
use Rattle.apart_run.specs.Laws.{OpenJoinedRunsTakeAllEvents}
use Rattle.image_load.specs.Start.{Start}
use Rattle.tcc_base.specs.Settings.{IsAllowed}

pub as-many : (n : ℕ) (g : Lcg) → length (words n g) ≡ n
unfolding first_words
as-many zero g = refl
as-many (suc n) g = ap (λ k. suc k) (as-many n (pcg32 g).1)

pub as_many_as : (n m k : ℕ) → m ≡ k → n ≤ m → ((n < m) → ⊥) → n ≡ k
as_many_as n m k e l a = grind (arith)

picked_runs : RiscvPickedEndsDone → PickedEnds → (s : Start) (seed steps : ℕ) (h : History) → IsAllowed s.settings
    → IsRun s (picked_by s seed steps) h → (IsDone s.settings h.world → ⊥) → length (picked_by s seed steps) ≡ steps
picked_runs done ends s seed steps h allowed is_run open_end =
    let rs = words steps (seeded seed) in
    let count : length rs ≡ steps = as-many steps (seeded seed) in
    let few : length (picked_by s seed steps) ≤ length rs = (ends s.settings (program s) rs (world_at_start s)).0 in
    let all : (length (picked_by s seed steps) < length rs) → ⊥ =
    λ l. open_end (rw is_run at (done s rs allowed l)) in
    as_many_as (length (picked_by s seed steps)) (length rs) steps count few all

-- as many events as the rules' events that they stand for
same-count : (es : List Event) → length es ≡ length (map event_of es)
same-count [] = refl
same-count (e ∷ es) = ap suc (same-count es)

pub open_runs : RiscvPickedEndsDone → PickedEnds → OpenJoinedRunsTakeAllEvents → OpenRunsTakeAllEvents
open_runs done ends joined s None seed steps es h allowed made is_run open_end =
    same-count es ∙ ap length made
    ∙ picked_runs done ends s seed steps h allowed (subst (λ fs. IsRun s fs h) made is_run) open_end
open_runs done ends joined s (Some t) seed steps es h allowed made is_run open_end = joined s steps es h allowed made is_run open_end

-- ---- by phases

few_after : (s : Start) (rs : List ℕ) (o : Option History) → ((g : History) → length (phased_picked s rs g) ≤ length rs)
    → length (after_event (phased_picked s rs) o) ≤ length rs
few_after s rs None few = omega arith
few_after s rs (Some g) few = few g

few_picked : (s : Start) (rs : List ℕ) (h : History) (e : Option rules.Event)
    → ((g : History) → length (phased_picked s rs g) ≤ length rs)
    → length (pick s h (phased_picked s rs) e) ≤ suc (length rs)
few_picked s rs h None few = omega arith
few_picked s rs h (Some e) few = let after = few_after s rs (phased_next s h e) few in omega (arith, after)

phased_few : (s : Start) (rs : List ℕ) (h : History) → length (phased_picked s rs h) ≤ length rs
unfolding phased_picked
phased_few s [] h = omega arith
phased_few s (r ∷ rs) h = few_picked s rs h (chosen r (phased_useful s h)) (λ g. phased_few s rs g)

-- where the run ends done, it ends done in this state
done_there : (s : Start) (es : List rules.Event) (h : History) (o : Option History) → IsSome o → IfSome o (λ g. IsDone s.settings g.world)
    → IfSome o (λ g. IsRun s es g) → IsRun s es h → IsDone s.settings h.world
done_there s es h None some done there here = absurd (cc)
done_there s es h (Some g) some done there here =
    let same : g ≡ h = one (sym there ∙ here) in subst (λ k. IsDone s.settings k.world) same done
  where
    one : Some g ≡ Some h → g ≡ h
    one e = cc

pub open_phased : PhasedPickedEndsDone → PhasedPickedRuns → PhasedRunsAreRuns → OpenPhasedRunsTakeAllEvents
open_phased done some are_runs s seed steps es h allowed picked is_run open_end =
    let rs = words steps (seeded seed) in
    let ps = phased_by s seed steps in
    let there = subst (λ fs. IsRun s fs h) picked is_run in
    let all : (length ps < length rs) → ⊥ =
    λ l. open_end (done_there s ps h (phased_from s ps (at_start s)) (some s rs (at_start s)) (done s rs allowed l)
    (are_runs s ps) there) in
    same-count es ∙ ap length picked
    ∙ as_many_as (length ps) (length rs) steps (as-many steps (seeded seed)) (phased_few s rs (at_start s)) all
