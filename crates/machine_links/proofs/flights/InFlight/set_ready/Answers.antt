-- The mark of the message is set in its lane, and counted.
use Rattle.std.proofs.Common.{◌≡◌, ◌+◌, ◌-◌, ◌<◌, [], map, get_or, set, Some, None, IsSome, sym, ap, subst, ◌∙◌, arith}
use Rattle.std.specs.List.{count_by, sum_by}
use Rattle.std.proofs.lemmas.Bool.{false≢true}
use Rattle.std.proofs.lemmas.List.{get_or_read}
use Rattle.rules_maps.specs.Words.{num}
use Rattle.rules_maps.specs.Bridge.{node_of}
use Rattle.rules_tcc.specs.Links.{in_flight}
use Rattle.machine_links.specs.Lane.{is_marked, is_waiting}
use Rattle.machine_links.specs.Places.{place}
use Rattle.machine_links.specs.Flights.{AllListed, net_of, is_ready, lane}
use Rattle.machine_links.proofs.Lanes.{Laned}
use Rattle.machine_links.proofs.Flown.{with_lanes}
use Rattle.machine_links.proofs.Reading.{flown-no_lane}
use Rattle.machine_links.proofs.Taking.{stands-of, below, counted-below, flies-held, place-lane, place-no_lane, marked-counted, marked-fits}
use Rattle.machine_links.proofs.Taking.{marked-stands, marked-net, marked-ready}
use Rattle.machine_links.proofs.flights.InFlight.set_ready.Goals as goal

pub index_mut-requires : goal.index_mut-requires
index_mut-requires c =
    let i = c.self.inside in
    let s = node_of c.args.src in
    let d = node_of c.args.dst in
    let stands = stands-of i c.self.invariant in
    let at : place i.grid.cores i.grid.dirs s d ≡ Some c.in-Some.at = sym c.place.ensures ∙ c.in-Some.is in
    omega (arith, below i.grid.cores i.grid.dirs i.lanes.items i.ready i.flying s d c.in-Some.at stands at, i.lanes.ok)

pub set_ready-was-requires : goal.set_ready-was-requires
unfolding net_of lane
set_ready-was-requires c =
    let i = c.self.inside in
    let s = node_of c.args.src in
    let d = node_of c.args.dst in
    let stands = stands-of i c.self.invariant in
    let at : place i.grid.cores i.grid.dirs s d ≡ Some c.in-Some.at = sym c.place.ensures ∙ c.in-Some.is in
    let e : c.index_mut.result.now ≡ get_or i.lanes.items c.in-Some.at [] =
    get_or_read i.lanes.items c.in-Some.at c.index_mut.result.now
    (below i.grid.cores i.grid.dirs i.lanes.items i.ready i.flying s d c.in-Some.at stands at) c.index_mut.ensures.value [] in
    flies-held (with_lanes i.grid.cores i.grid.dirs i.lanes.items) s d c.args.seq c.index_mut.result.now
    (e ∙ sym (place-lane i.grid.cores i.grid.dirs i.lanes.items s d c.in-Some.at at))
    (subst (λ f. IsSome (in_flight (net_of f) s d c.args.seq)) (sym c.self.view_is) c.requires)

pub count_mark-requires-clause-place : goal.count_mark-requires-clause-place
count_mark-requires-clause-place c =
    let i = c.self.inside in
    let s = node_of c.args.src in
    let d = node_of c.args.dst in
    let stands = stands-of i c.self.invariant in
    let at : place i.grid.cores i.grid.dirs s d ≡ Some c.in-Some.at = sym c.place.ensures ∙ c.in-Some.is in
    counted-below i.grid.cores i.grid.dirs i.lanes.items i.ready i.flying s d c.in-Some.at stands at

pub count_mark-requires-clause-counted : goal.count_mark-requires-clause-counted
unfolding net_of lane
count_mark-requires-clause-counted c =
    let i = c.self.inside in
    let s = node_of c.args.src in
    let d = node_of c.args.dst in
    let stands = stands-of i c.self.invariant in
    let at : place i.grid.cores i.grid.dirs s d ≡ Some c.in-Some.at = sym c.place.ensures ∙ c.in-Some.is in
    let e : c.index_mut.result.now ≡ get_or i.lanes.items c.in-Some.at [] =
    get_or_read i.lanes.items c.in-Some.at c.index_mut.result.now
    (below i.grid.cores i.grid.dirs i.lanes.items i.ready i.flying s d c.in-Some.at stands at) c.index_mut.ensures.value [] in
    let some : IsSome (get_or c.index_mut.result.now c.args.seq None) =
    flies-held (with_lanes i.grid.cores i.grid.dirs i.lanes.items) s d c.args.seq c.index_mut.result.now
    (e ∙ sym (place-lane i.grid.cores i.grid.dirs i.lanes.items s d c.in-Some.at at))
    (subst (λ f. IsSome (in_flight (net_of f) s d c.args.seq)) (sym c.self.view_is) c.requires) in
    rw c.set_ready-was.ensures.was
    (marked-counted i.grid.cores i.grid.dirs i.lanes.items i.ready i.flying s d c.in-Some.at c.args.seq c.index_mut.result.now
    c.args.ready stands at e some)

pub count_mark-requires-clause-fits : goal.count_mark-requires-clause-fits
unfolding net_of lane
count_mark-requires-clause-fits c =
    let i = c.self.inside in
    let s = node_of c.args.src in
    let d = node_of c.args.dst in
    let stands = stands-of i c.self.invariant in
    let at : place i.grid.cores i.grid.dirs s d ≡ Some c.in-Some.at = sym c.place.ensures ∙ c.in-Some.is in
    let e : c.index_mut.result.now ≡ get_or i.lanes.items c.in-Some.at [] =
    get_or_read i.lanes.items c.in-Some.at c.index_mut.result.now
    (below i.grid.cores i.grid.dirs i.lanes.items i.ready i.flying s d c.in-Some.at stands at) c.index_mut.ensures.value [] in
    let some : IsSome (get_or c.index_mut.result.now c.args.seq None) =
    flies-held (with_lanes i.grid.cores i.grid.dirs i.lanes.items) s d c.args.seq c.index_mut.result.now
    (e ∙ sym (place-lane i.grid.cores i.grid.dirs i.lanes.items s d c.in-Some.at at))
    (subst (λ f. IsSome (in_flight (net_of f) s d c.args.seq)) (sym c.self.view_is) c.requires) in
    let few = subst (λ l. count_by is_marked l < 4294967296) c.set_ready-was.ensures.marked c.set_ready-was.ensures.few in
    rw c.set_ready-was.ensures.was
    (marked-fits i.grid.cores i.grid.dirs i.lanes.items i.ready i.flying s d c.in-Some.at c.args.seq c.index_mut.result.now c.args.ready
    stands at e some few)

pub invariant_of-self : goal.invariant_of-self
unfolding net_of lane
invariant_of-self c =
    let i = c.self.inside in
    let s = node_of c.args.src in
    let d = node_of c.args.dst in
    let stands = stands-of i c.self.invariant in
    let at : place i.grid.cores i.grid.dirs s d ≡ Some c.in-Some.at = sym c.place.ensures ∙ c.in-Some.is in
    let e : c.index_mut.result.now ≡ get_or i.lanes.items c.in-Some.at [] =
    get_or_read i.lanes.items c.in-Some.at c.index_mut.result.now
    (below i.grid.cores i.grid.dirs i.lanes.items i.ready i.flying s d c.in-Some.at stands at) c.index_mut.ensures.value [] in
    let some : IsSome (get_or c.index_mut.result.now c.args.seq None) =
    flies-held (with_lanes i.grid.cores i.grid.dirs i.lanes.items) s d c.args.seq c.index_mut.result.now
    (e ∙ sym (place-lane i.grid.cores i.grid.dirs i.lanes.items s d c.in-Some.at at))
    (subst (λ f. IsSome (in_flight (net_of f) s d c.args.seq)) (sym c.self.view_is) c.requires) in
    let after = marked-stands i.grid.cores i.grid.dirs i.lanes.items i.ready i.flying s d c.in-Some.at c.args.seq c.index_mut.result.now
    c.args.ready stands at e some in
    let items = ap (λ l. set i.lanes.items c.in-Some.at l) c.set_ready-was.ensures.marked in
    let laned = subst (λ ls. Laned i.grid.cores i.grid.dirs ls) (sym items) after.laned in
    record {
      cores = c.self.invariant.cores;
      dirs = c.self.invariant.dirs;
      all = laned.all;
      unlinked = laned.unlinked;
      counted = c.count_mark.ensures
          ∙ (ap (λ b. set i.ready c.in-Some.at (get_or i.ready c.in-Some.at 0 + num c.args.ready - num b)) c.set_ready-was.ensures.was
          ∙ (after.counted.counted ∙ ap (map (count_by is_marked)) (sym items)));
      flying = after.counted.flying ∙ ap (sum_by (count_by is_waiting)) (sym items);
      few = c.self.invariant.few;
      listed = subst (λ n. AllListed n i.index)
          (sym (ap (λ ls. net_of (with_lanes i.grid.cores i.grid.dirs ls)) items
          ∙ marked-net i.grid.cores i.grid.dirs i.lanes.items i.ready i.flying s d c.in-Some.at c.args.seq c.index_mut.result.now
          c.args.ready stands at e)) c.self.invariant.listed;
    }

pub returns-in-Some-clause-net : goal.returns-in-Some-clause-net
unfolding net_of lane
returns-in-Some-clause-net c =
    let i = c.self.inside in
    let s = node_of c.args.src in
    let d = node_of c.args.dst in
    let stands = stands-of i c.self.invariant in
    let at : place i.grid.cores i.grid.dirs s d ≡ Some c.in-Some.at = sym c.place.ensures ∙ c.in-Some.is in
    let e : c.index_mut.result.now ≡ get_or i.lanes.items c.in-Some.at [] =
    get_or_read i.lanes.items c.in-Some.at c.index_mut.result.now
    (below i.grid.cores i.grid.dirs i.lanes.items i.ready i.flying s d c.in-Some.at stands at) c.index_mut.ensures.value [] in
    rw (← c.self.view_is)
    (ap (λ l. net_of (with_lanes i.grid.cores i.grid.dirs (set i.lanes.items c.in-Some.at l))) c.set_ready-was.ensures.marked
    ∙ marked-net i.grid.cores i.grid.dirs i.lanes.items i.ready i.flying s d c.in-Some.at c.args.seq c.index_mut.result.now c.args.ready
    stands at e)

pub returns-in-Some-clause-ready : goal.returns-in-Some-clause-ready
unfolding net_of is_ready lane
returns-in-Some-clause-ready c =
    let i = c.self.inside in
    let s = node_of c.args.src in
    let d = node_of c.args.dst in
    let stands = stands-of i c.self.invariant in
    let at : place i.grid.cores i.grid.dirs s d ≡ Some c.in-Some.at = sym c.place.ensures ∙ c.in-Some.is in
    let e : c.index_mut.result.now ≡ get_or i.lanes.items c.in-Some.at [] =
    get_or_read i.lanes.items c.in-Some.at c.index_mut.result.now
    (below i.grid.cores i.grid.dirs i.lanes.items i.ready i.flying s d c.in-Some.at stands at) c.index_mut.ensures.value [] in
    let some : IsSome (get_or c.index_mut.result.now c.args.seq None) =
    flies-held (with_lanes i.grid.cores i.grid.dirs i.lanes.items) s d c.args.seq c.index_mut.result.now
    (e ∙ sym (place-lane i.grid.cores i.grid.dirs i.lanes.items s d c.in-Some.at at))
    (subst (λ f. IsSome (in_flight (net_of f) s d c.args.seq)) (sym c.self.view_is) c.requires) in
    rw (← c.self.view_is)
    (ap (λ l. is_ready (with_lanes i.grid.cores i.grid.dirs (set i.lanes.items c.in-Some.at l))) c.set_ready-was.ensures.marked
    ∙ marked-ready i.grid.cores i.grid.dirs i.lanes.items i.ready i.flying s d c.in-Some.at c.args.seq c.index_mut.result.now c.args.ready
    stands at e some)

pub returns-in_default-clause-ready : goal.returns-in_default-clause-ready
unfolding net_of lane
returns-in_default-clause-ready c =
    let i = c.self.inside in
    let s = node_of c.args.src in
    let d = node_of c.args.dst in
    let none = place-no_lane i.grid.cores i.grid.dirs i.lanes.items s d (sym c.place.ensures ∙ c.in_default.is) in
    absurd (false≢true (subst (λ o. IsSome o) (sym (flown-no_lane (with_lanes i.grid.cores i.grid.dirs i.lanes.items) s d c.args.seq none))
    (subst (λ f. IsSome (in_flight (net_of f) s d c.args.seq)) (sym c.self.view_is) c.requires)))
