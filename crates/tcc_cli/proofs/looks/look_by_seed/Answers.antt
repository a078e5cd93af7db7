-- The state at the end of the run that the seed picks.
use Rattle.std.proofs.Common.{◌∙◌, IfOk, Some, ap, subst, sym}
use Rattle.std.specs.String.{string_bytes}
use Rattle.image_load.specs.Contents.{started}
use Rattle.tcc_words.specs.declared.command.View.{View}
use Rattle.tcc_cli.proofs.Watched.{state-so}
use Rattle.tcc_cli.specs.Looks.{ArePicked, LookedAt, most_of, view_text}
use Rattle.tcc_cli.specs.Runs.{picked_by}
use Rattle.tcc_cli.specs.Schedules.{IsPicked}
use Rattle.tcc_cli.proofs.looks.look_by_seed.Goals as goal

pub returns-in_ok-system-in-State : goal.returns-in_ok-system-in-State
returns-in_ok-system-in-State c =
    let s = started c.args.loaded.now in
    let seed = c.args.seed in
    let steps = c.args.steps in
    let t = c.in_ok-system-in-State.ensures.taken in
    subst (λ (v : View). IfOk c.state_of.result (λ f. LookedAt s (ArePicked s seed steps (most_of v)) (view_text v (Some (seed, steps)) s)
    f.done (string_bytes f.text))) (sym c.in-State.is)
    (state-so s (IsPicked s seed c.min.result) (ArePicked s seed steps c.in-State.events) c.in-State.events (Some (seed, steps))
    c.in_ok-system-in-State.system (λ f. f.done) (λ f. string_bytes f.text) c.state_of.result t
    (t.schedule ∙ ap (picked_by s seed) c.min.ensures)
    c.state_of.ensures.runs c.state_of.ensures.text)
