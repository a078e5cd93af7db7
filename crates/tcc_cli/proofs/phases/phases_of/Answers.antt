-- The phases are those of the commits, and the report is that of the machine.
use Rattle.std.proofs.Common.{◌∙◌, ap, length, sym}
use Rattle.image_load.specs.Contents.{started}
use Rattle.net_core.specs.Machine.{history_of}
use Rattle.rules_phases.specs.Phases as theorem_phases
use Rattle.tcc_cli.specs.Phased.{phases_and, phases_text}
use Rattle.tcc_cli.specs.Runs.{run_text}
use Rattle.tcc_cli.proofs.phases.phases_of.Goals as goal

pub in_front-requires : goal.in_front-requires
unfolding history_of
in_front-requires c =
    ap length c.phases.ensures ∙ c.inner-refined.ensures.phased.in_phases.count
    ∙ ap length (sym (c.commits-commits.ensures ∙ ap (λ n. n.commits) c.system.ensures.machine
    ∙ ap (λ r. r.machine.commits) c.inner-refined.ensures.inner))

pub returns-in-Ok-clause-text : goal.returns-in-Ok-clause-text
unfolding history_of phases_text
returns-in-Ok-clause-text c =
    let m = c.args.system.now.refined.machine in
    let s = started c.args.loaded.now in
    let done = c.in_ok-finished.finished.done in
    let commits = c.commits-commits.ensures ∙ ap (λ n. n.commits) c.system.ensures.machine
    ∙ ap (λ r. r.machine.commits) c.inner-refined.ensures.inner in
    let phases = c.phases.ensures ∙ ap (λ k. theorem_phases.phases_of (started k) (history_of m)) c.requires.code in
    let report = c.as_str.ensures.value ∙ c.in_ok-finished.ensures.text
    ∙ ap (λ r. run_text s done (length r.taken) (history_of r.machine)) c.inner-refined.ensures.inner in
    c.in-Ok.ensures ∙ (λ i. phases_and (commits i) (phases i) (report i))
