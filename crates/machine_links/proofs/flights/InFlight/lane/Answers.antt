-- The lane at the link's place.
use Rattle.std.proofs.Common.{◌≡◌, ◌<◌, [], length, Some, None, sym, ap, ◌∙◌, arith}
use Rattle.std.proofs.lemmas.List.{get_or_read}
use Rattle.rules_maps.specs.Bridge.{node_of}
use Rattle.machine_links.specs.Places.{place}
use Rattle.machine_links.specs.Flights.{lane_at, lane}
use Rattle.machine_links.proofs.Placing.{placed}
use Rattle.machine_links.proofs.flights.InFlight.lane.Goals as goal

pub index-requires : goal.index-requires
index-requires c =
    let i = c.self.inside in
    let at : place i.grid.cores i.grid.dirs (node_of c.args.src) (node_of c.args.dst) ≡ Some c.in_ok-at.at = sym c.place.ensures
    ∙ c.in_ok-at.was in
    omega (arith, (placed _ _ _ _ _ at).below, c.self.invariant.all, c.self.inside.lanes.ok)

pub returns-clause-some : goal.returns-clause-some
unfolding lane
returns-clause-some c =
    let i = c.self.inside in
    let at : place i.grid.cores i.grid.dirs (node_of c.args.src) (node_of c.args.dst) ≡ Some c.in_ok-at.at = sym c.place.ensures
    ∙ c.in_ok-at.was in
    let within : c.in_ok-at.at < length i.lanes.items = omega (arith, (placed _ _ _ _ _ at).below, c.self.invariant.all) in
    rw (← c.self.view_is)
    (get_or_read i.lanes.items c.in_ok-at.at c.index.result.now within c.index.ensures [] ∙ sym (ap (lane_at i.lanes.items) at))

pub returns-in_err-at-clause-none : goal.returns-in_err-at-clause-none
unfolding lane
returns-in_err-at-clause-none c =
    let i = c.self.inside in
    let at : place i.grid.cores i.grid.dirs (node_of c.args.src) (node_of c.args.dst) ≡ None = sym c.place.ensures ∙ c.in_err-at.was in
    rw (← c.self.view_is, c.from_residual.ensures) (ap (lane_at i.lanes.items) at)
