use Rattle.std.proofs.Common.{length, sym, ap, ◌∙◌}
use Rattle.rules_maps.specs.Bridge.{node_of}
use Rattle.machine_links.proofs.Reading.{waiting-numbers, waiting-no_lane}
use Rattle.machine_links.proofs.flights.InFlight.waiting.Goals as goal

pub returns-in-Some : goal.returns-in-Some
returns-in-Some c =
    c.waiting.ensures ∙ ap length (waiting-numbers c.args.self.now (node_of c.args.src) (node_of c.args.dst) _ c.in-Some.ensures.some)

pub returns-in-None : goal.returns-in-None
returns-in-None c = sym (ap length (waiting-no_lane c.args.self.now (node_of c.args.src) (node_of c.args.dst) c.in-None.ensures.none))
