-- The seed's events are counted from the start on.
use Rattle.std.proofs.Common.{◌∙◌}
use Rattle.std.specs.String.{string_bytes}
use Rattle.std.specs.Prelude.{Some}
use Rattle.image_load.specs.Contents.{started}
use Rattle.tcc_cli.proofs.Watched.{counted-so, picked-few, picked-so}
use Rattle.tcc_cli.specs.Looks.{ArePicked}
use Rattle.tcc_words.specs.Fields.{count_limit}
use Rattle.tcc_cli.proofs.looks.count_picked.Goals as goal

pub count-requires-clause-enough : goal.count-requires-clause-enough
count-requires-clause-enough c =
    picked-few c.a_picked_schedule_is_a_run.ensures.ends (started c.args.loaded.now) _ _ _ c.new-events.ensures.left

pub returns : goal.returns
unfolding started
returns c =
    counted-so (started c.args.loaded.now) c.config.result.now
    (ArePicked (started c.args.loaded.now) c.args.seed c.args.steps count_limit) _ _ _ _ c.args.csv (Some (c.args.seed, c.args.steps))
    (λ f. f.done) (λ f. string_bytes f.text) c.counted_tables.result
    (picked-so (started c.args.loaded.now) _ _ c.args.seed _ (c.new-events.ensures.left ∙ c.min-most.ensures)
    c.new-events.ensures.chooser)
    c.in_ok-counted.ensures c.config.ensures c.counted_tables.ensures.done c.counted_tables.ensures.text
