-- The table that broke off is that of what was searched.
use Rattle.std.proofs.Common.{ap}
use Rattle.image_load.specs.Contents.{started}
use Rattle.tcc_cli.proofs.Tables.{one-table, table-broken}
use Rattle.tcc_cli.proofs.outcomes.write_told.Goals as goal

pub returns-in-Err-clause-stopped : goal.returns-in-Err-clause-stopped
returns-in-Err-clause-stopped g c =
    let told = c.args.told.now in
    table-broken (started c.args.loaded.now) c.args.limits c.args.tell told.results.done _ _ c.in-Err.broken c.of_broken.result
    (one-table (started c.args.loaded.now) c.args.limits c.args.tell c.args.explored.now told.results told.stuck
    (ap started c.requires.loaded) c.requires.searched c.requires.results c.requires.stuck)
    c.of_broken.ensures c.in-Err.ensures.broken
