-- The message stands behind those that were sent before, and its mark is counted.
use Rattle.std.proofs.Common.{◌≡◌, ◌<◌, [], map, get_or, set, sym, ap, subst, ◌∙◌, arith}
use Rattle.std.specs.List.{count_by, sum_by}
use Rattle.std.proofs.lemmas.List.{get_or_read}
use Rattle.rules_maps.specs.Bridge.{node_of}
use Rattle.tcc_msg.specs.Plain.{msg_of}
use Rattle.rules_tcc.specs.Links.{sending}
use Rattle.machine_links.specs.declared.lane.Held.{Held}
use Rattle.machine_links.specs.Flights.{AllListed, net_of, is_ready, lane}
use Rattle.machine_links.specs.Subject.{entry_of}
use Rattle.machine_links.specs.Lane.{is_marked, is_waiting}
use Rattle.machine_links.proofs.Lanes.{Laned}
use Rattle.machine_links.proofs.Flown.{with_lanes}
use Rattle.machine_links.proofs.Listings.{put-listed, sends-one}
use Rattle.machine_links.proofs.Taking.{stands-of, below, counted-below}
use Rattle.machine_links.proofs.Behind.{sent-number, sent-fits, sent-stands, sent-net, sent-ready}
use Rattle.machine_links.proofs.flights.InFlight.push.Goals as goal

pub link-at-requires : goal.link-at-requires
link-at-requires c = rw (sym c.self.view_is) at c.requires

pub index-requires : goal.index-requires
index-requires c =
    let i = c.self.inside in
    omega (
      arith,
      below i.grid.cores i.grid.dirs i.lanes.items i.ready i.flying (node_of c.args.src) (node_of c.args.dst) c.link-at.result
          (stands-of i c.self.invariant) c.link-at.ensures,
      i.lanes.ok,
    )

pub index_mut-requires : goal.index_mut-requires
index_mut-requires c =
    let i = c.self.inside in
    omega (
      arith,
      below i.grid.cores i.grid.dirs i.lanes.items i.ready i.flying (node_of c.args.src) (node_of c.args.dst) c.link-at.result
          (stands-of i c.self.invariant) c.link-at.ensures,
      i.lanes.ok,
    )

pub count_mark-requires-clause-place : goal.count_mark-requires-clause-place
count_mark-requires-clause-place c =
    let i = c.self.inside in
    counted-below i.grid.cores i.grid.dirs i.lanes.items i.ready i.flying (node_of c.args.src) (node_of c.args.dst) c.link-at.result
    (stands-of i c.self.invariant) c.link-at.ensures

pub count_mark-requires-clause-fits : goal.count_mark-requires-clause-fits
count_mark-requires-clause-fits c =
    let i = c.self.inside in
    let cs = i.grid.cores in
    let ds = i.grid.dirs in
    let s = node_of c.args.src in
    let d = node_of c.args.dst in
    let stands = stands-of i c.self.invariant in
    let e : c.index_mut.result.now ≡ get_or i.lanes.items c.link-at.result [] =
    get_or_read i.lanes.items c.link-at.result c.index_mut.result.now
    (below cs ds i.lanes.items i.ready i.flying s d c.link-at.result stands c.link-at.ensures) c.index_mut.ensures.value [] in
    sent-fits cs ds i.lanes.items i.ready i.flying s d c.link-at.result c.index_mut.result.now
    (record { msg = c.args.msg; ready = c.args.ready }) stands c.link-at.ensures e
    (subst (λ l. count_by is_marked l < 4294967296) c.in-Ok.ensures.sent c.in-Ok.ensures.few)

pub invariant_of-self-in-Ok : goal.invariant_of-self-in-Ok
unfolding net_of lane
invariant_of-self-in-Ok c =
    let i = c.self.inside in
    let cs = i.grid.cores in
    let ds = i.grid.dirs in
    let s = node_of c.args.src in
    let d = node_of c.args.dst in
    let stands = stands-of i c.self.invariant in
    let at = c.link-at.ensures in
    let e : c.index_mut.result.now ≡ get_or i.lanes.items c.link-at.result [] =
    get_or_read i.lanes.items c.link-at.result c.index_mut.result.now
    (below cs ds i.lanes.items i.ready i.flying s d c.link-at.result stands at) c.index_mut.ensures.value [] in
    let held : Held = record { msg = c.args.msg; ready = c.args.ready } in
    let items = ap (λ l. set i.lanes.items c.link-at.result l) c.in-Ok.ensures.sent in
    let net = net_of (with_lanes cs ds i.lanes.items) in
    let after = sent-stands cs ds i.lanes.items i.ready i.flying s d c.link-at.result c.index_mut.result.now held stands at e in
    let laned = subst (λ ls. Laned cs ds ls) (sym items) after.laned in
    record {
      cores = c.self.invariant.cores;
      dirs = c.self.invariant.dirs;
      all = laned.all;
      unlinked = laned.unlinked;
      counted = c.count_mark.ensures ∙ (after.counted.counted ∙ ap (map (count_by is_marked)) (sym items));
      flying = after.counted.flying ∙ ap (sum_by (count_by is_waiting)) (sym items);
      few = omega arith;
      listed = subst (λ n. AllListed n c.list.new.self)
          (sym (ap (λ ls. net_of (with_lanes cs ds ls)) items
          ∙ sent-net cs ds i.lanes.items i.ready i.flying s c.args.dst c.link-at.result c.index_mut.result.now held stands at e
          ∙ ap (sending net s) (sends-one c.args.dst c.args.msg)))
          (put-listed net i.index c.list.new.self s d (msg_of c.args.msg)
          (λ f q. c.in_ok-list.ensures.listed f (c.entry_of-entry.ensures
          ∙ ap (λ n. entry_of s d n (msg_of c.args.msg))
          (c.sent.ensures ∙ sent-number cs ds i.lanes.items s d c.link-at.result _ at
          (get_or_read i.lanes.items c.link-at.result _
          (below cs ds i.lanes.items i.ready i.flying s d c.link-at.result stands at) c.index.ensures []))
          ∙ q))
          c.list.ensures.others c.self.invariant.listed);
    }

pub returns-in-Ok-clause-net : goal.returns-in-Ok-clause-net
unfolding net_of lane
returns-in-Ok-clause-net c =
    let i = c.self.inside in
    let cs = i.grid.cores in
    let ds = i.grid.dirs in
    let s = node_of c.args.src in
    let d = node_of c.args.dst in
    let stands = stands-of i c.self.invariant in
    let at = c.link-at.ensures in
    let e : c.index_mut.result.now ≡ get_or i.lanes.items c.link-at.result [] =
    get_or_read i.lanes.items c.link-at.result c.index_mut.result.now
    (below cs ds i.lanes.items i.ready i.flying s d c.link-at.result stands at) c.index_mut.ensures.value [] in
    let held : Held = record { msg = c.args.msg; ready = c.args.ready } in
    let items = ap (λ l. set i.lanes.items c.link-at.result l) c.in-Ok.ensures.sent in
    rw (← c.self.view_is)
    (ap (λ ls. net_of (with_lanes cs ds ls)) items
    ∙ sent-net cs ds i.lanes.items i.ready i.flying s c.args.dst c.link-at.result c.index_mut.result.now held stands at e)

pub returns-in-Ok-clause-ready : goal.returns-in-Ok-clause-ready
unfolding net_of is_ready lane
returns-in-Ok-clause-ready c =
    let i = c.self.inside in
    let cs = i.grid.cores in
    let ds = i.grid.dirs in
    let s = node_of c.args.src in
    let d = node_of c.args.dst in
    let stands = stands-of i c.self.invariant in
    let at = c.link-at.ensures in
    let e : c.index_mut.result.now ≡ get_or i.lanes.items c.link-at.result [] =
    get_or_read i.lanes.items c.link-at.result c.index_mut.result.now
    (below cs ds i.lanes.items i.ready i.flying s d c.link-at.result stands at) c.index_mut.ensures.value [] in
    let held : Held = record { msg = c.args.msg; ready = c.args.ready } in
    let items = ap (λ l. set i.lanes.items c.link-at.result l) c.in-Ok.ensures.sent in
    rw (← c.self.view_is)
    (ap (λ ls. is_ready (with_lanes cs ds ls)) items
    ∙ sent-ready cs ds i.lanes.items i.ready i.flying s d c.link-at.result c.index_mut.result.now held stands at e)
