-- The seed's events are traced from the start on.
use Rattle.std.proofs.Common.{◌∙◌}
use Rattle.image_load.specs.Contents.{started}
use Rattle.tcc_cli.proofs.Watched.{broken-so, picked-few, picked-so}
use Rattle.tcc_cli.proofs.traces.trace_by_seed.Goals as goal

pub trace-requires-clause-enough : goal.trace-requires-clause-enough
trace-requires-clause-enough g c =
    picked-few c.a_picked_schedule_is_a_run.ensures.ends (started c.args.loaded.now) _ _ _ c.new-events.ensures.left

pub returns-in-Err-clause-stopped : goal.returns-in-Err-clause-stopped
returns-in-Err-clause-stopped g c =
    broken-so (started c.args.loaded.now) _ c.args.shown _ _ _ c.in-Err.broken c.of_broken.result
    (picked-so (started c.args.loaded.now) _ _ c.args.seed _ (c.new-events.ensures.left ∙ c.min-most.ensures)
    c.new-events.ensures.chooser) c.of_broken.ensures
    c.in-Err.ensures.broken
