-- The list's events are traced from the start on.
use Rattle.image_load.specs.Contents.{started}
use Rattle.tcc_msg.specs.Plain.{event_of}
use Rattle.tcc_cli.proofs.Watched.{broken-so, listed-so}
use Rattle.tcc_cli.proofs.traces.trace_listed.Goals as goal

pub returns-in-Err-clause-stopped : goal.returns-in-Err-clause-stopped
returns-in-Err-clause-stopped g c =
    broken-so (started c.args.loaded.now) _ c.args.shown _ _ _ c.in-Err.broken c.of_broken.result
    (listed-so event_of _ _ _ c.new-events.ensures.at c.new-events.ensures.events) c.of_broken.ensures c.in-Err.ensures.broken
