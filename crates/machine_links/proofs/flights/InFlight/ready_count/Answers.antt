-- The sum of the counts by place.
use Rattle.std.proofs.Common.{◌∙◌, sym, arith}
use Rattle.machine_links.specs.Flights.{ready_list, nodes_of, ready_on, net_of, is_ready, lane}
use Rattle.machine_links.proofs.Counts.{marked-most}
use Rattle.machine_links.proofs.Taking.{Stands}
use Rattle.machine_links.proofs.Reading.{marked-flies}
use Rattle.machine_links.proofs.Listing.{ready-count}
use Rattle.machine_links.proofs.flights.InFlight.ready_count.Goals as goal

pub returns-clause-count : goal.returns-clause-count
unfolding ready_list nodes_of ready_on net_of is_ready lane
returns-clause-count c =
    let i = c.self.inside in
    let stands : Stands i.grid.cores i.grid.dirs i.lanes.items i.ready i.flying = record {
      laned = record { all = c.self.invariant.all; unlinked = c.self.invariant.unlinked };
      counted = record { counted = c.self.invariant.counted; flying = c.self.invariant.flying };
    } in
    rw (← c.self.view_is) (c.total.ensures ∙ sym (ready-count _ _ _ _ _ stands))

pub returns-clause-only : goal.returns-clause-only
returns-clause-only c = λ src dst k h. marked-flies c.args.self.now src dst k h

pub returns-clause-few : goal.returns-clause-few
returns-clause-few c =
    let i = c.self.inside in
    let few = c.self.invariant.few in
    let most = marked-most i.lanes.items i.ready i.flying
    (record { counted = c.self.invariant.counted; flying = c.self.invariant.flying }) in
    omega (arith, few, most, c.total.ensures)
