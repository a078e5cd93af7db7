-- A merge that is a run, and what is picked from its end on.
use Rattle.std.proofs.Common.{◌≡◌, ℕ, ◌-◌, ◌<◌, ◌≤◌, List, [], ◌∷◌, ◌++◌, length, map, Option, Some, None}
use Rattle.std.proofs.Common.{refl, ap, sym, ◌∙◌, subst, arith}
use Rattle.std.specs.Prelude.{IfSome, IsSome, replicate}
use Rattle.std.proofs.lemmas.List.{length-append, length-map, length-replicate}
use Rattle.image_load.specs.Start.{Start}
use Rattle.rv_code.specs.Machine.{program}
use Rattle.theorem_riscv.specs.Going.{RiscvNeverStuck}
use Rattle.rules_riscv.specs.Starting.{world_at_start}
use Rattle.tcc_base.specs.Settings.{Settings}
use Rattle.theorem_live.specs.Progress.{DoneWhereNoneUseful}
use Rattle.rules_maps.specs.Nodes.{Event as RuleEvent}
use Rattle.tcc_msg.specs.Plain.{event_of}
use Rattle.tcc_msg.specs.declared.event.Event.{Event}
use Rattle.rules_program.specs.Program.{Program}
use Rattle.rules_tcc.specs.Laws.{EndsUseless}
use Rattle.rules_tcc.specs.Step.{History, and_then, next_history, run, run_from}
use Rattle.rules_tcc.specs.Useful.{useful}
use Rattle.rules_tcc.proofs.Lemmas.{PicksRun, picked-runs}
use Rattle.apart_run.specs.Joined.{IsJoined, first_useful}
use Rattle.apart_run.specs.Laws.{JoinedSchedulesAreRuns, OpenJoinedRunsTakeAllEvents}

-- events behind events
run-behind : (sh : Settings) (p : Program) (es fs : List RuleEvent) (h : History)
    → run_from sh p (es ++ fs) h ≡ and_then (run_from sh p fs) (run_from sh p es h)
unfolding run_from
run-behind sh p [] fs h = refl
run-behind sh p (e ∷ es) fs h = go (next_history sh p h e) (λ g. run-behind sh p es fs g)
  where
    go : (o : Option History) → ((g : History) → run_from sh p (es ++ fs) g ≡ and_then (run_from sh p fs) (run_from sh p es g))
        → and_then (run_from sh p (es ++ fs)) o ≡ and_then (run_from sh p fs) (and_then (run_from sh p es) o)
    go None rest = refl
    go (Some g) rest = rest g

-- what is picked after the merged events
picks : (s : Start) (n : ℕ) (h : History)
    → PicksRun s.settings (program s) n (first_useful s n h.world) (run_from s.settings (program s) (first_useful s n h.world) h)
picks s n h =
    subst (λ k. PicksRun s.settings (program s) k (first_useful s n h.world) (run_from s.settings (program s) (first_useful s n h.world) h))
    (length-replicate n 0) (picked-runs s.settings (program s) (replicate n 0) h)

-- the whole run goes on from where the merged events lead
whole : (s : Start) (steps : ℕ) (events : List Event) (j : IsJoined s steps events)
    → run s.settings (program s) (world_at_start s) (map event_of events)
    ≡ run_from s.settings (program s) (first_useful s (steps - length j.merged) j.middle.world) j.middle
unfolding run
whole s steps events j =
    let more = first_useful s (steps - length j.merged) j.middle.world in
    ap (run s.settings (program s) (world_at_start s)) j.events_are
    ∙ run-behind s.settings (program s) (map event_of j.merged) more (record { world = world_at_start s; commits = [] })
    ∙ ap (and_then (run_from s.settings (program s) more)) j.leads

pub joined-runs : JoinedSchedulesAreRuns
joined-runs s steps events j = subst IsSome (sym (whole s steps events j)) (picks s (steps - length j.merged) j.middle).runs

-- all of them are picked, where some event is useful at the end
all-picked : (s : Start) (n : ℕ) (g h : History) → run_from s.settings (program s) (first_useful s n g.world) g ≡ Some h
    → (useful s.settings (program s) h.world ≡ [] → ⊥) → length (first_useful s n g.world) ≡ n
all-picked s n g h is_run busy =
    let p = picks s n g in
    let few = p.few in
    let not_fewer : length (first_useful s n g.world) < n → ⊥ =
    λ l. busy (subst (EndsUseless s.settings (program s)) is_run (p.ends l)) in
    equal (length (first_useful s n g.world)) n few not_fewer
  where
    equal : (a b : ℕ) → a ≤ b → ((a < b) → ⊥) → a ≡ b
    equal a b l n = grind (arith)

pub open-runs : RiscvNeverStuck → OpenJoinedRunsTakeAllEvents
open-runs never_stuck s steps events h allowed j is_run undone =
    let n = steps - length j.merged in
    let done_where_useless : DoneWhereNoneUseful s.settings (program s) h.world =
    subst (λ o. IfSome o (λ g. DoneWhereNoneUseful s.settings (program s) g.world)) is_run (never_stuck s (map event_of events) allowed) in
    let all = all-picked s n j.middle h (sym (whole s steps events j) ∙ is_run) (λ e. undone (done_where_useless e)) in
    let parts = sym (length-map events event_of) ∙ ap length j.events_are
    ∙ length-append (map event_of j.merged) (first_useful s n j.middle.world) in
    let few = j.by_threads.few in
    let plain = length-map j.merged event_of in
    omega (arith, all, parts, few, plain)

-- no more than were asked for
pub joined-few : (s : Start) (steps : ℕ) (events : List Event) → IsJoined s steps events → length events ≤ steps
joined-few s steps events j =
    let n = steps - length j.merged in
    let more = (picks s n j.middle).few in
    let parts = sym (length-map events event_of) ∙ ap length j.events_are
    ∙ length-append (map event_of j.merged) (first_useful s n j.middle.world) in
    let few = j.by_threads.few in
    let plain = length-map j.merged event_of in
    omega (arith, more, parts, few, plain)
