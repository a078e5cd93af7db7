-- The counts are those of the run, whichever number of steps it is of.
use Rattle.std.proofs.Common.{◌∙◌, ap}
use Rattle.std.specs.String.{string_bytes}
use Rattle.image_load.specs.Contents.{started}
use Rattle.tcc_cli.proofs.GoingOn.{counts-told}
use Rattle.tcc_cli.proofs.long.counts_of.Goals as goal

pub returns : goal.returns
unfolding started
returns c =
    counts-told c.args.loaded.now c.args.run.now c.done-done.result c.args.csv c.config.result.now c.seed.result c.args.asked
    c.events.result c.counts.result.now (λ f. f.done) (λ f. string_bytes f.text) c.tables.result c.done-done.ensures.counted
    c.config.ensures c.seed.ensures (c.events.ensures.count ∙ ap (λ m. m.events) c.system.ensures) c.counts.ensures
    c.tables.ensures.done c.tables.ensures.text
