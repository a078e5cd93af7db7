-- The message that the number falls on.
use Rattle.std.proofs.Common.{◌<◌, ◌≤◌, ◌∙◌, [], length, Some, None, sym, inl, inr, arith}
use Rattle.std.specs.List.{sum}
use Rattle.std.proofs.lemmas.Bool.{cases_lt, false≢true}
use Rattle.std.proofs.lemmas.List.{get_or_read}
use Rattle.rules_maps.specs.Nodes.{Deliver}
use Rattle.machine_links.specs.Flights.{ready_list, nodes_of, ready_on, net_of, is_ready, lane}
use Rattle.machine_links.proofs.Taking.{Stands}
use Rattle.machine_links.proofs.Listing.{same-length, ready-listed, ready-past}
use Rattle.machine_links.proofs.flights.InFlight.ready_at.Goals as goal

pub returns-in_err-at : goal.returns-in_err-at
unfolding ready_list nodes_of ready_on net_of is_ready lane
returns-in_err-at c =
    let i = c.self.inside in
    let stands : Stands i.grid.cores i.grid.dirs i.lanes.items i.ready i.flying = record {
      laned = record { all = c.self.invariant.all; unlinked = c.self.invariant.unlinked };
      counted = record { counted = c.self.invariant.counted; flying = c.self.invariant.flying };
    } in
    let past : sum i.ready ≤ c.args.k =
    elim (cases_lt c.args.k (sum i.ready))
    [ inl below ↦ absurd (false≢true (c.in_err-at.ensures.below.1 below)) | inr above ↦ above ] in
    rw (← c.self.view_is, c.from_residual.ensures) (sym (ready-past _ _ _ _ _ stands c.args.k past))

pub returns-in_err-seq : goal.returns-in_err-seq
unfolding ready_list nodes_of ready_on net_of is_ready lane
returns-in_err-seq c =
    let i = c.self.inside in
    let stands : Stands i.grid.cores i.grid.dirs i.lanes.items i.ready i.flying = record {
      laned = record { all = c.self.invariant.all; unlinked = c.self.invariant.unlinked };
      counted = record { counted = c.self.invariant.counted; flying = c.self.invariant.flying };
    } in
    let falls = c.in_ok-at.ensures.falls in
    let within : c.in_ok-at.at < length i.lanes.items = omega (arith, falls.exists, same-length _ _ _ _ _ stands) in
    let lane = get_or_read i.lanes.items c.in_ok-at.at c.index.result.now within c.index.ensures [] in
    rw (← c.self.view_is, c.from_residual-in_err-seq.ensures)
    (ready-listed _ _ _ _ _ stands c.args.k c.in_ok-at.at c.in_ok-at.into c.index.result.now None falls.before falls.within falls.exists
    lane c.in_err-seq.ensures)

pub returns : goal.returns
unfolding ready_list nodes_of ready_on net_of is_ready lane
returns c =
    let i = c.self.inside in
    let stands : Stands i.grid.cores i.grid.dirs i.lanes.items i.ready i.flying = record {
      laned = record { all = c.self.invariant.all; unlinked = c.self.invariant.unlinked };
      counted = record { counted = c.self.invariant.counted; flying = c.self.invariant.flying };
    } in
    let falls = c.in_ok-at.ensures.falls in
    let within : c.in_ok-at.at < length i.lanes.items = omega (arith, falls.exists, same-length _ _ _ _ _ stands) in
    let lane = get_or_read i.lanes.items c.in_ok-at.at c.index.result.now within c.index.ensures [] in
    rw (← c.self.view_is) (
    (λ t. Some (Deliver (c.ends-src.ensures.src t) (c.ends-src.ensures.dst t) c.in_ok-seq.seq))
    ∙ ready-listed _ _ _ _ _ stands c.args.k c.in_ok-at.at c.in_ok-at.into c.index.result.now (Some c.in_ok-seq.seq) falls.before
    falls.within falls.exists lane c.in_ok-seq.ensures
    )
