-- The message is taken out of its lane, and counted no longer.
use Rattle.std.proofs.Common.{◌≡◌, [], map, get_or, set, IsSome, refl, sym, ap, subst, ◌∙◌, arith}
use Rattle.std.specs.List.{count_by, sum_by}
use Rattle.std.proofs.lemmas.List.{get_or_read}
use Rattle.rules_maps.specs.Bridge.{node_of}
use Rattle.tcc_msg.specs.Plain.{msg_of}
use Rattle.rules_tcc.specs.Links.{in_flight}
use Rattle.machine_links.specs.Lane.{is_marked, is_waiting}
use Rattle.machine_links.specs.Flights.{AllListed, net_of, is_ready, lane}
use Rattle.machine_links.proofs.Lanes.{Laned}
use Rattle.machine_links.proofs.Flown.{with_lanes}
use Rattle.machine_links.proofs.Listings.{taken-listed}
use Rattle.machine_links.proofs.Reading.{flies-linked}
use Rattle.machine_links.proofs.Taking.{stands-of, below, counted-below, flies-held, found, taken-flying, taken-marked, taken-stands}
use Rattle.machine_links.proofs.Taking.{taken-net, taken-ready, place-lane}
use Rattle.machine_links.proofs.flights.InFlight.discard.Goals as goal

pub link-at-requires : goal.link-at-requires
link-at-requires c =
    rw (sym c.self.view_is) at
    (flies-linked c.args.self.now (node_of c.args.name.src) (node_of c.args.name.dst) c.args.name.seq (msg_of c.args.msg.now) c.requires)

pub index_mut-requires : goal.index_mut-requires
index_mut-requires c =
    let i = c.self.inside in
    let s = node_of c.args.name.src in
    let d = node_of c.args.name.dst in
    let k = c.args.name.seq in
    let stands = stands-of i c.self.invariant in
    let at = c.link-at.ensures in
    omega (arith, below i.grid.cores i.grid.dirs i.lanes.items i.ready i.flying s d c.link-at.result stands at, i.lanes.ok)

pub discard-was-requires : goal.discard-was-requires
unfolding net_of lane
discard-was-requires c =
    let i = c.self.inside in
    let s = node_of c.args.name.src in
    let d = node_of c.args.name.dst in
    let k = c.args.name.seq in
    let stands = stands-of i c.self.invariant in
    let at = c.link-at.ensures in
    let e : c.index_mut.result.now ≡ get_or i.lanes.items c.link-at.result [] =
    get_or_read i.lanes.items c.link-at.result c.index_mut.result.now
    (below i.grid.cores i.grid.dirs i.lanes.items i.ready i.flying s d c.link-at.result stands at) c.index_mut.ensures.value [] in
    let fly : IsSome (in_flight (net_of (with_lanes i.grid.cores i.grid.dirs i.lanes.items)) s d k) =
    subst (λ f. IsSome (in_flight (net_of f) s d k)) (sym c.self.view_is) (subst (λ o. IsSome o) (sym c.requires) refl) in
    flies-held (with_lanes i.grid.cores i.grid.dirs i.lanes.items) s d k c.index_mut.result.now
    (e ∙ sym (place-lane i.grid.cores i.grid.dirs i.lanes.items s d c.link-at.result at)) fly

pub overflow_sub-self : goal.overflow_sub-self
unfolding net_of lane
overflow_sub-self c =
    let i = c.self.inside in
    let s = node_of c.args.name.src in
    let d = node_of c.args.name.dst in
    let k = c.args.name.seq in
    let stands = stands-of i c.self.invariant in
    let at = c.link-at.ensures in
    let e : c.index_mut.result.now ≡ get_or i.lanes.items c.link-at.result [] =
    get_or_read i.lanes.items c.link-at.result c.index_mut.result.now
    (below i.grid.cores i.grid.dirs i.lanes.items i.ready i.flying s d c.link-at.result stands at) c.index_mut.ensures.value [] in
    let fly : IsSome (in_flight (net_of (with_lanes i.grid.cores i.grid.dirs i.lanes.items)) s d k) =
    subst (λ f. IsSome (in_flight (net_of f) s d k)) (sym c.self.view_is) (subst (λ o. IsSome o) (sym c.requires) refl) in
    let there = found (with_lanes i.grid.cores i.grid.dirs i.lanes.items) s d k c.index_mut.result.now c.discard-was.result
    (e ∙ sym (place-lane i.grid.cores i.grid.dirs i.lanes.items s d c.link-at.result at)) fly c.discard-was.ensures.was in
    taken-flying i.grid.cores i.grid.dirs i.lanes.items i.ready i.flying s d c.link-at.result k c.index_mut.result.now
    c.discard-was.result stands at e there

pub count_mark-requires-clause-place : goal.count_mark-requires-clause-place
count_mark-requires-clause-place c =
    let i = c.self.inside in
    let s = node_of c.args.name.src in
    let d = node_of c.args.name.dst in
    let k = c.args.name.seq in
    let stands = stands-of i c.self.invariant in
    let at = c.link-at.ensures in
    counted-below i.grid.cores i.grid.dirs i.lanes.items i.ready i.flying s d c.link-at.result stands at

pub count_mark-requires-clause-counted : goal.count_mark-requires-clause-counted
unfolding net_of lane
count_mark-requires-clause-counted c =
    let i = c.self.inside in
    let s = node_of c.args.name.src in
    let d = node_of c.args.name.dst in
    let k = c.args.name.seq in
    let stands = stands-of i c.self.invariant in
    let at = c.link-at.ensures in
    let e : c.index_mut.result.now ≡ get_or i.lanes.items c.link-at.result [] =
    get_or_read i.lanes.items c.link-at.result c.index_mut.result.now
    (below i.grid.cores i.grid.dirs i.lanes.items i.ready i.flying s d c.link-at.result stands at) c.index_mut.ensures.value [] in
    let fly : IsSome (in_flight (net_of (with_lanes i.grid.cores i.grid.dirs i.lanes.items)) s d k) =
    subst (λ f. IsSome (in_flight (net_of f) s d k)) (sym c.self.view_is) (subst (λ o. IsSome o) (sym c.requires) refl) in
    let there = found (with_lanes i.grid.cores i.grid.dirs i.lanes.items) s d k c.index_mut.result.now c.discard-was.result
    (e ∙ sym (place-lane i.grid.cores i.grid.dirs i.lanes.items s d c.link-at.result at)) fly c.discard-was.ensures.was in
    taken-marked i.grid.cores i.grid.dirs i.lanes.items i.ready i.flying s d c.link-at.result k c.index_mut.result.now
    c.discard-was.result stands at e there

pub invariant_of-self : goal.invariant_of-self
unfolding net_of lane
invariant_of-self c =
    let i = c.self.inside in
    let s = node_of c.args.name.src in
    let d = node_of c.args.name.dst in
    let k = c.args.name.seq in
    let stands = stands-of i c.self.invariant in
    let at = c.link-at.ensures in
    let e : c.index_mut.result.now ≡ get_or i.lanes.items c.link-at.result [] =
    get_or_read i.lanes.items c.link-at.result c.index_mut.result.now
    (below i.grid.cores i.grid.dirs i.lanes.items i.ready i.flying s d c.link-at.result stands at) c.index_mut.ensures.value [] in
    let fly : IsSome (in_flight (net_of (with_lanes i.grid.cores i.grid.dirs i.lanes.items)) s d k) =
    subst (λ f. IsSome (in_flight (net_of f) s d k)) (sym c.self.view_is) (subst (λ o. IsSome o) (sym c.requires) refl) in
    let there = found (with_lanes i.grid.cores i.grid.dirs i.lanes.items) s d k c.index_mut.result.now c.discard-was.result
    (e ∙ sym (place-lane i.grid.cores i.grid.dirs i.lanes.items s d c.link-at.result at)) fly c.discard-was.ensures.was in
    let after = taken-stands i.grid.cores i.grid.dirs i.lanes.items i.ready i.flying s d c.link-at.result k c.index_mut.result.now
    c.discard-was.result stands at e there in
    let items = ap (λ l. set i.lanes.items c.link-at.result l) c.discard-was.ensures.taken in
    let laned = subst (λ ls. Laned i.grid.cores i.grid.dirs ls) (sym items) after.laned in
    record {
      cores = c.self.invariant.cores;
      dirs = c.self.invariant.dirs;
      all = laned.all;
      unlinked = laned.unlinked;
      counted = c.count_mark.ensures ∙ (after.counted.counted ∙ ap (map (count_by is_marked)) (sym items));
      flying = after.counted.flying ∙ ap (sum_by (count_by is_waiting)) (sym items);
      few = let few = c.self.invariant.few in omega (arith, few);
      listed = subst (λ n. AllListed n c.unlist.new.self)
          (sym (ap (λ ls. net_of (with_lanes i.grid.cores i.grid.dirs ls)) items
          ∙ taken-net i.grid.cores i.grid.dirs i.lanes.items i.ready i.flying s d c.link-at.result k c.index_mut.result.now stands at e))
          (taken-listed _ i.index c.unlist.new.self s d k (msg_of c.args.msg.now)
          (λ f ne l. c.unlist.ensures f (λ q. ne (sym c.entry_of.ensures ∙ q)) l) c.self.invariant.listed);
    }

pub returns-clause-net : goal.returns-clause-net
unfolding net_of lane
returns-clause-net c =
    let i = c.self.inside in
    let s = node_of c.args.name.src in
    let d = node_of c.args.name.dst in
    let k = c.args.name.seq in
    let stands = stands-of i c.self.invariant in
    let at = c.link-at.ensures in
    let e : c.index_mut.result.now ≡ get_or i.lanes.items c.link-at.result [] =
    get_or_read i.lanes.items c.link-at.result c.index_mut.result.now
    (below i.grid.cores i.grid.dirs i.lanes.items i.ready i.flying s d c.link-at.result stands at) c.index_mut.ensures.value [] in
    rw (← c.self.view_is)
    (ap (λ l. net_of (with_lanes i.grid.cores i.grid.dirs (set i.lanes.items c.link-at.result l))) c.discard-was.ensures.taken
    ∙ taken-net i.grid.cores i.grid.dirs i.lanes.items i.ready i.flying s d c.link-at.result k c.index_mut.result.now stands at e)

pub returns-clause-ready : goal.returns-clause-ready
unfolding is_ready lane
returns-clause-ready c =
    let i = c.self.inside in
    let s = node_of c.args.name.src in
    let d = node_of c.args.name.dst in
    let k = c.args.name.seq in
    let stands = stands-of i c.self.invariant in
    let at = c.link-at.ensures in
    let e : c.index_mut.result.now ≡ get_or i.lanes.items c.link-at.result [] =
    get_or_read i.lanes.items c.link-at.result c.index_mut.result.now
    (below i.grid.cores i.grid.dirs i.lanes.items i.ready i.flying s d c.link-at.result stands at) c.index_mut.ensures.value [] in
    rw (← c.self.view_is)
    (ap (λ l. is_ready (with_lanes i.grid.cores i.grid.dirs (set i.lanes.items c.link-at.result l))) c.discard-was.ensures.taken
    ∙ taken-ready i.grid.cores i.grid.dirs i.lanes.items i.ready i.flying s d c.link-at.result k c.index_mut.result.now stands at e)
