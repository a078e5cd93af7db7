use Rattle.std.proofs.Common.{length, sym, ap, ◌∙◌}
use Rattle.rules_maps.specs.Bridge.{node_of}
use Rattle.machine_links.proofs.Reading.{net-length, net-none}
use Rattle.machine_links.proofs.flights.InFlight.sent.Goals as goal

pub returns-in-Some : goal.returns-in-Some
returns-in-Some c = c.sent.ensures
    ∙ (ap length c.in-Some.ensures.some ∙ sym (net-length c.args.self.now (node_of c.args.src) (node_of c.args.dst)))

pub returns-in-None : goal.returns-in-None
returns-in-None c = sym (net-none c.args.self.now (node_of c.args.src) (node_of c.args.dst) c.in-None.ensures.none)
