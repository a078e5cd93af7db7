-- Every lane is empty.
use Rattle.std.proofs.Common.{◌≡◌, ◌∙◌, sym, ap, subst, map, arith}
use Rattle.std.specs.List.{count_by, sum_by}
use Rattle.machine_links.specs.Lane.{is_marked, is_waiting}
use Rattle.machine_links.specs.Flights.{net_of, is_ready, lane}
use Rattle.machine_links.proofs.Lanes.{Laned}
use Rattle.machine_links.proofs.Flown.{with_lanes}
use Rattle.machine_links.proofs.Listings.{none-listed}
use Rattle.machine_links.proofs.Quiet.{blank, blank-laned, blank-counted, blank-net, blank-ready}
use Rattle.machine_links.proofs.flights.InFlight.new.Goals as goal

pub invariant_of-result : goal.invariant_of-result
unfolding net_of lane
invariant_of-result c =
    let cs = c.args.cores in
    let ds = c.args.dirs in
    let n = c.pairs-pairs.result in
    let items : c.in_ok-empty_lanes.field-0.items ≡ blank n = c.in_ok-empty_lanes.ensures in
    let laned = subst (λ ls. Laned cs ds ls) (sym items) (blank-laned cs ds n c.pairs-pairs.ensures) in
    record {
      cores = c.requires.cores;
      dirs = c.requires.dirs;
      all = laned.all;
      unlinked = laned.unlinked;
      counted = c.in_ok-new.ensures ∙ ((blank-counted n).counted ∙ ap (map (count_by is_marked)) (sym items));
      flying = (blank-counted n).flying ∙ ap (sum_by (count_by is_waiting)) (sym items);
      few = omega arith;
      listed = none-listed _ _ (ap (λ ls. net_of (with_lanes cs ds ls)) items ∙ blank-net cs ds n);
    }

pub returns-clause-net : goal.returns-clause-net
unfolding net_of lane
returns-clause-net c =
    ap (λ ls. net_of (with_lanes c.args.cores c.args.dirs ls)) c.in_ok-empty_lanes.ensures
    ∙ blank-net c.args.cores c.args.dirs c.pairs-pairs.result

pub returns-clause-ready : goal.returns-clause-ready
unfolding is_ready lane
returns-clause-ready c =
    ap (λ ls. is_ready (with_lanes c.args.cores c.args.dirs ls)) c.in_ok-empty_lanes.ensures
    ∙ blank-ready c.args.cores c.args.dirs c.pairs-pairs.result
