-- The list's events are counted from the start on.
use Rattle.image_load.specs.Contents.{started}
use Rattle.tcc_msg.specs.Plain.{event_of}
use Rattle.tcc_cli.proofs.Watched.{listed-so, untabled-so}
use Rattle.tcc_cli.proofs.totals.totals_listed.Goals as goal

pub returns-in-Err-clause-stopped : goal.returns-in-Err-clause-stopped
returns-in-Err-clause-stopped g c =
    untabled-so (started c.args.loaded.now) _ _ _ _ _ c.in-Err.broken c.of_broken.result
    (listed-so event_of _ _ _ c.new-events.ensures.at c.new-events.ensures.events) c.of_broken.ensures c.in-Err.ensures.broken
