-- What isn't in flight isn't taken.
use Rattle.std.proofs.Common.{sym}
use Rattle.rules_maps.specs.Bridge.{node_of}
use Rattle.machine_links.proofs.Taking.{absent-net, absent-ready}
use Rattle.machine_links.proofs.flights.InFlight.take.Goals as goal

pub returns-in_err-msg-clause-net : goal.returns-in_err-msg-clause-net
returns-in_err-msg-clause-net c =
    absent-net c.args.self.now (node_of c.args.name.src) (node_of c.args.name.dst) c.args.name.seq (sym c.in_err-msg.ensures)

pub returns-in_err-msg-clause-ready : goal.returns-in_err-msg-clause-ready
returns-in_err-msg-clause-ready c =
    absent-ready c.args.self.now (node_of c.args.name.src) (node_of c.args.name.dst) c.args.name.seq (sym c.in_err-msg.ensures)
