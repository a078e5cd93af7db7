-- What isn't in flight isn't marked.
use Rattle.std.proofs.Common.{sym}
use Rattle.rules_maps.specs.Bridge.{node_of}
use Rattle.machine_links.proofs.Reading.{absent-unready}
use Rattle.machine_links.proofs.flights.InFlight.is_ready.Goals as goal

pub returns-in-None : goal.returns-in-None
returns-in-None c =
    sym (absent-unready c.args.self.now (node_of c.args.name.src) (node_of c.args.name.dst) c.args.name.seq (sym c.in-None.ensures.message))
