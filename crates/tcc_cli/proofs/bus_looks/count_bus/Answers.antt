-- The seed's events are counted from the start on.
use Rattle.std.proofs.Common.{subst}
use Rattle.std.specs.String.{string_bytes}
use Rattle.image_load.specs.Contents.{started}
use Rattle.bus_run.specs.Counted.{IsBusCounted}
use Rattle.tcc_cli.proofs.BusViews.{bus-counted}
use Rattle.tcc_cli.proofs.bus_looks.count_bus.Goals as goal

pub returns : goal.returns
unfolding started
returns c =
    let counted = c.in_ok-counted.counted in
    bus-counted (started c.args.loaded.now) c.config.result.now c.args.seed c.args.steps counted.done counted.events counted.counts
    c.args.csv (λ f. f.done) (λ f. string_bytes f.text) c.tables.result
    (subst (λ k. IsBusCounted (started c.args.loaded.now) c.args.seed k counted.done counted.events counted.counts) c.min.ensures
    c.in_ok-counted.ensures)
    c.config.ensures c.tables.ensures.done c.tables.ensures.text
