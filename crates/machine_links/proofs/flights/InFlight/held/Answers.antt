-- The message of that number in the link's lane.
use Rattle.rules_maps.specs.Bridge.{node_of}
use Rattle.machine_links.proofs.Reading.{flown-some, flown-none, flown-no_lane, ready-some}
use Rattle.machine_links.proofs.flights.InFlight.held.Goals as goal

pub returns-in_err-lane-clause-message : goal.returns-in_err-lane-clause-message
returns-in_err-lane-clause-message c =
    rw c.from_residual.ensures
    (flown-no_lane c.args.self.now (node_of c.args.name.src) (node_of c.args.name.dst) c.args.name.seq c.in_err-lane.ensures.none)

pub returns-in_err-held-clause-message : goal.returns-in_err-held-clause-message
returns-in_err-held-clause-message c =
    rw c.from_residual-in_err-held.ensures
    (flown-none c.args.self.now (node_of c.args.name.src) (node_of c.args.name.dst) c.args.name.seq _ c.in_ok-lane.ensures.some
    c.in_err-held.ensures)

pub returns-clause-message : goal.returns-clause-message
returns-clause-message c = flown-some c.args.self.now (node_of c.args.name.src) (node_of c.args.name.dst) c.args.name.seq _
    c.in_ok-held.held.now c.in_ok-lane.ensures.some c.in_ok-held.ensures

pub returns-clause-mark : goal.returns-clause-mark
returns-clause-mark c = ready-some c.args.self.now (node_of c.args.name.src) (node_of c.args.name.dst) c.args.name.seq _
    c.in_ok-held.held.now c.in_ok-lane.ensures.some c.in_ok-held.ensures
