-- The counts are those of the run, whichever number of steps it is of, and so is their row.
use Rattle.std.proofs.Common.{◌++◌, ◌∙◌, Some, ap}
use Rattle.image_load.specs.Contents.{started}
use Rattle.watch_count.specs.Csv.{csv_row}
use Rattle.tcc_cli.proofs.GoingOn.{row-looked}
use Rattle.tcc_cli.proofs.growing.last_row.Goals as goal

pub returns : goal.returns
unfolding started
returns c = λ every n k.
    row-looked c.args.loaded.now c.args.run.now c.done-done.result c.config.result.now c.seed.result c.args.asked
    c.events-events.result c.counts.result.now _ c.done-done.ensures.counted c.config.ensures c.seed.ensures
    (c.events-events.ensures.count ∙ ap (λ m. m.events) c.system.ensures) c.counts.ensures
    (c.in_ok-push_csv_row.ensures
    ∙ ap (λ xs. xs ++ csv_row c.config.result.now (Some (c.seed.result, c.args.asked)) c.done-done.result c.events-events.result
    c.counts.result.now) c.new-text.ensures.bytes) every n k
