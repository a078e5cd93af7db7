-- The newest of the copies and those of the messages so far.
use Rattle.std.proofs.Common.{take}
use Rattle.std.specs.List.{flat_map}
use Rattle.rules_maps.specs.Nodes.{Core, Dir}
use Rattle.rules_maps.specs.Words.{word_at}
use Rattle.rules_tcc.specs.State.{Link}
use Rattle.machine_links.specs.Flights.{net_of}
use Rattle.net_core.specs.Copies.{AreNewest}
use Rattle.net_core.proofs.Words.Newest.{copy_at, waiting_on}
use Rattle.net_core.proofs.seeing.newest_on_link.Given as goal

abbrev pub invariant-loop-i : goal.invariant-loop-i
invariant-loop-i l =
    let link : Link = net_of l.fn.flights (Core l.fn.core.0) (Dir l.fn.dir.0) in
    AreNewest l.fn.best l.best (λ k. flat_map (copy_at (word_at l.fn.line.0 k) link) (take l.i (waiting_on link)))
