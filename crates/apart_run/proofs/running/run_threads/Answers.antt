-- The merged events are a run, and the machine goes on from where they lead.
use Rattle.std.proofs.Common.{◌≡◌, ◌-◌, ◌∙◌, length, ap, subst, sym}
use Rattle.std.specs.Prelude.{IsSome}
use Rattle.image_load.specs.Contents.{started}
use Rattle.tcc_replay.specs.Replayed.{history_by}
use Rattle.apart_run.proofs.Joined.{joined, merged-runs}
use Rattle.apart_run.proofs.Joining.{joined-few}
use Rattle.apart_run.proofs.running.run_threads.Goals as goal

pub retrace-requires-clause-runs : goal.retrace-requires-clause-runs
retrace-requires-clause-runs g c =
    subst (λ es. IsSome (history_by (started c.args.loaded.now) es))
    (sym (c.deref.ensures.value ∙ ap (λ s. s.events) c.schedule.view_is))
    (merged-runs c.merged_logs_are_a_run.ensures (started c.args.loaded.now) c.args.plan.now.steps c.in_ok-schedule.schedule.events
    c.in_ok-schedule.ensures)

pub returns-clause-joined : goal.returns-clause-joined
returns-clause-joined g c =
    let steps = c.args.plan.now.steps in
    let merged = c.in_ok-schedule.schedule.events in
    let taken : c.in_ok-refined.refined.taken ≡ merged =
    c.in_ok-refined.ensures.taken ∙ c.deref.ensures.value ∙ ap (λ s. s.events) c.schedule.view_is in
    joined c.args.loaded.now steps (steps - length c.taken.result.now) merged c.in_ok-refined.refined c.go_on.new.refined
    c.in_ok-schedule.ensures c.taken.ensures.refined c.in_ok-refined.ensures.code taken
    (ap (λ es. steps - length es) (c.taken.ensures.taken ∙ taken)) c.in_ok-go_on.ensures.took

pub returns-clause-few : goal.returns-clause-few
returns-clause-few g c =
    joined-few (started c.args.loaded.now) c.args.plan.now.steps c.go_on.new.refined.taken (returns-clause-joined g c)
