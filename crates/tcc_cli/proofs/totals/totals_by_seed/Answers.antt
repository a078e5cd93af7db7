-- The seed's events are counted from the start on.
use Rattle.std.proofs.Common.{◌∙◌}
use Rattle.image_load.specs.Contents.{started}
use Rattle.tcc_cli.proofs.Watched.{picked-few, picked-so, untabled-so}
use Rattle.tcc_cli.proofs.totals.totals_by_seed.Goals as goal

pub count_every-requires-clause-enough : goal.count_every-requires-clause-enough
count_every-requires-clause-enough g c =
    picked-few c.a_picked_schedule_is_a_run.ensures.ends (started c.args.loaded.now) _ _ _ c.new-events.ensures.left

pub returns-in-Err-clause-stopped : goal.returns-in-Err-clause-stopped
returns-in-Err-clause-stopped g c =
    untabled-so (started c.args.loaded.now) _ _ _ _ _ c.in-Err.broken c.of_broken.result
    (picked-so (started c.args.loaded.now) _ _ c.args.seed _ (c.new-events.ensures.left ∙ c.min-most.ensures)
    c.new-events.ensures.chooser) c.of_broken.ensures
    c.in-Err.ensures.broken
