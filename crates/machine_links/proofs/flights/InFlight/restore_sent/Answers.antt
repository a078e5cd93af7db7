-- The lane is lengthened by what counts as sent, and all that is counted and listed is as before.
use Rattle.std.proofs.Common.{◌≡◌, ◌<◌, ℕ, [], true, map, Option, length, get_or, set, Some, None, refl, sym, ap, subst, ◌∙◌, arith}
use Rattle.std.specs.List.{count_by, sum_by}
use Rattle.std.proofs.lemmas.Bool.{false≢true}
use Rattle.std.proofs.lemmas.List.{get_or_read}
use Rattle.rules_maps.specs.Bridge.{node_of}
use Rattle.rules_maps.specs.Nodes.{Node}
use Rattle.machine_links.specs.declared.flights.InFlight.TheInside.{Inside}
use Rattle.machine_links.specs.FlightsInside.{IsFlights, flights_of}
use Rattle.machine_links.specs.Lane.{Lane, is_marked, is_waiting}
use Rattle.machine_links.specs.Passed.{passed, passed_to}
use Rattle.machine_links.specs.Places.{is_link, place}
use Rattle.machine_links.specs.Flights.{Flights, AllListed, net_of, is_ready, lane}
use Rattle.machine_links.proofs.Lanes.{Laned}
use Rattle.machine_links.proofs.Flown.{with_lanes}
use Rattle.machine_links.proofs.Placing.{placed, place-yes}
use Rattle.machine_links.proofs.Taking.{Stands, stands-of, below}
use Rattle.machine_links.proofs.Behind.{sent-number}
use Rattle.machine_links.proofs.Passed.{passed-stands, passed-net, passed-ready, passed-listed}
use Rattle.machine_links.proofs.flights.InFlight.restore_sent.Goals as goal

-- the place at which the link has its lane
abbrev place_of : Inside → (s d : Node) → Option ℕ
place_of i s d = place i.grid.cores i.grid.dirs s d

pub returns-in_default-clause-fits : goal.returns-in_default-clause-fits
returns-in_default-clause-fits c =
    let i = c.self.inside in
    let s = node_of c.args.src in
    let d = node_of c.args.dst in
    let none : place_of i s d ≡ None = sym c.place.ensures ∙ c.in_default.is in (
      λ h. absurd (false≢true h),
      λ h. let link : is_link i.grid.cores i.grid.dirs s d ≡ true =
          subst (λ v. is_link v.cores v.dirs s d ≡ true) (sym c.self.view_is) h.0 in
          let some = place-yes i.grid.cores i.grid.dirs s d link in
          absurd (cc (none, some)),
    )

-- there is a lane at that place
has-lane : (i : Inside) (s d : Node) (at : ℕ) → IsFlights i → place_of i s d ≡ Some at → at < length i.lanes.items
has-lane i s d at inv is = below i.grid.cores i.grid.dirs i.lanes.items i.ready i.flying s d at (stands-of i inv) is

pub index-requires : goal.index-requires
index-requires c =
    let i = c.self.inside in
    let w = has-lane i (node_of c.args.src) (node_of c.args.dst) c.in-Some.at c.self.invariant (sym c.place.ensures ∙ c.in-Some.is) in
    omega (arith, w, i.lanes.ok)

pub index_mut-requires : goal.index_mut-requires
index_mut-requires c =
    let i = c.self.inside in
    let w = has-lane i (node_of c.args.src) (node_of c.args.dst) c.in-Some.at c.self.invariant (sym c.place.ensures ∙ c.in-Some.is) in
    omega (arith, w, i.lanes.ok)

-- how many were sent on the link
number : (f : Inside) (v : Flights) (s d : Node) (at : ℕ) (l : Lane) → IsFlights f → flights_of f ≡ v
    → place_of f s d ≡ Some at → l ≡ get_or f.lanes.items at l → length l ≡ length (net_of v s d)
unfolding net_of lane
number f v s d at l inv is placed e =
    let cs = f.grid.cores in
    let ds = f.grid.dirs in
    let w = has-lane f s d at inv placed in
    rw (← is) (sent-number cs ds f.lanes.items s d at l placed (get_or_read f.lanes.items at l w e []))

pub returns-then-sent-clause-fits : goal.returns-then-sent-clause-fits
returns-then-sent-clause-fits c =
    let count = number c.self.inside c.args.self.now (node_of c.args.src) (node_of c.args.dst) c.in-Some.at c.index.result.now
    c.self.invariant c.self.view_is (sym c.place.ensures ∙ c.in-Some.is) c.index.ensures in
    (λ h. absurd (false≢true h), λ h. absurd (omega (arith, h.1, count, c.sent.ensures, c.if-sent.true)))

-- the lanes with the longer one, which was `was`
record IsLonger (i : Inside) (s d : Node) (sent at : ℕ) (was now : Lane) : Type 0 where
  stands : Stands i.grid.cores i.grid.dirs i.lanes.items i.ready i.flying
  placed : place_of i s d ≡ Some at
  old : was ≡ get_or i.lanes.items at []
  lanes : set i.lanes.items at now ≡ set i.lanes.items at (passed sent was)

longer : (c : goal.After-self-1)
    → IsLonger c.self.inside (node_of c.args.src) (node_of c.args.dst) c.args.sent c.in-Some.at c.index_mut.result.now c.pass_to.new.self
longer c =
    let i = c.self.inside in
    let at : place_of i (node_of c.args.src) (node_of c.args.dst) ≡ Some c.in-Some.at = sym c.place.ensures ∙ c.in-Some.is in
    record {
      stands = stands-of i c.self.invariant;
      placed = at;
      old = get_or_read i.lanes.items c.in-Some.at c.index_mut.result.now
          (has-lane i (node_of c.args.src) (node_of c.args.dst) c.in-Some.at c.self.invariant at) c.index_mut.ensures.value [];
      lanes = ap (λ l. set i.lanes.items c.in-Some.at l) c.pass_to.ensures;
    }

-- the links and the marks of the lanes
net-longer : (i : Inside) (s d : Node) (sent at : ℕ) (was now : Lane) → IsLonger i s d sent at was now
    → net_of (with_lanes i.grid.cores i.grid.dirs (set i.lanes.items at now)) ≡ passed_to (net_of (flights_of i)) s d sent
unfolding net_of lane
net-longer i s d sent at was now w =
    ap (λ ls. net_of (with_lanes i.grid.cores i.grid.dirs ls)) w.lanes
    ∙ passed-net i.grid.cores i.grid.dirs i.lanes.items i.ready i.flying s d at sent was w.stands w.placed w.old

ready-longer : (i : Inside) (s d : Node) (sent at : ℕ) (was now : Lane) → IsLonger i s d sent at was now
    → is_ready (with_lanes i.grid.cores i.grid.dirs (set i.lanes.items at now)) ≡ is_ready (flights_of i)
unfolding is_ready lane
ready-longer i s d sent at was now w =
    ap (λ ls. is_ready (with_lanes i.grid.cores i.grid.dirs ls)) w.lanes
    ∙ passed-ready i.grid.cores i.grid.dirs i.lanes.items i.ready i.flying s d at sent was w.stands w.placed w.old

pub invariant_of-self : goal.invariant_of-self
unfolding net_of lane
invariant_of-self c =
    let i = c.self.inside in
    let cs = i.grid.cores in
    let ds = i.grid.dirs in
    let s = node_of c.args.src in
    let d = node_of c.args.dst in
    let w = longer c in
    let after = passed-stands cs ds i.lanes.items i.ready i.flying s d c.in-Some.at c.args.sent c.index_mut.result.now w.stands w.placed
    w.old in
    let laned = subst (λ ls. Laned cs ds ls) (sym w.lanes) after.laned in
    record {
      cores = c.self.invariant.cores;
      dirs = c.self.invariant.dirs;
      all = laned.all;
      unlinked = laned.unlinked;
      counted = after.counted.counted ∙ ap (map (count_by is_marked)) (sym w.lanes);
      flying = after.counted.flying ∙ ap (sum_by (count_by is_waiting)) (sym w.lanes);
      few = c.self.invariant.few;
      listed = subst (λ n. AllListed n i.index) (sym (net-longer i s d c.args.sent c.in-Some.at _ _ w))
          (passed-listed (net_of (with_lanes cs ds i.lanes.items)) s d c.args.sent i.index c.self.invariant.listed);
    }

pub returns-clause-fits : goal.returns-clause-fits
returns-clause-fits c =
    let i = c.self.inside in
    let s = node_of c.args.src in
    let d = node_of c.args.dst in
    let at : place_of i s d ≡ Some c.in-Some.at = sym c.place.ensures ∙ c.in-Some.is in
    let link = (placed i.grid.cores i.grid.dirs s d c.in-Some.at at).link in
    let count = number i c.args.self.now s d c.in-Some.at c.index.result.now c.self.invariant c.self.view_is at c.index.ensures in
    (λ h. (rw (← c.self.view_is) link, omega (arith, count, c.sent.ensures, c.if-sent.false)), λ h. refl)

pub returns-clause-net : goal.returns-clause-net
unfolding net_of lane
returns-clause-net c =
    let w = longer c in
    rw (← c.self.view_is) (net-longer c.self.inside (node_of c.args.src) (node_of c.args.dst) c.args.sent c.in-Some.at _ _ w)

pub returns-clause-ready : goal.returns-clause-ready
unfolding is_ready lane
returns-clause-ready c =
    let w = longer c in
    rw (← c.self.view_is) (ready-longer c.self.inside (node_of c.args.src) (node_of c.args.dst) c.args.sent c.in-Some.at _ _ w)
