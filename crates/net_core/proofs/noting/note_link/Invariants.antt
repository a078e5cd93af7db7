-- The messages so far.
use Rattle.std.proofs.Common.{◌≡◌, ℕ, [], take}
use Rattle.std.specs.List.{flat_map}
use Rattle.rules_maps.specs.Nodes.{Core, Dir}
use Rattle.rules_maps.specs.Words.{line_of}
use Rattle.rules_tcc.specs.State.{Link}
use Rattle.machine_links.specs.Flights.{net_of}
use Rattle.net_core.specs.Away.{Covers}
use Rattle.net_core.proofs.Words.Newest.{copy_at, waiting_on}
use Rattle.net_core.proofs.noting.note_link.Given as goal

abbrev pub invariant-loop-i : goal.invariant-loop-i
invariant-loop-i l =
    let link : Link = net_of l.fn.flights (Core l.fn.core.0) (Dir l.fn.dir.0) in
    Covers l.fn.notes l.notes (λ k. (w : ℕ) → line_of w ≡ k → flat_map (copy_at w link) (take l.i (waiting_on link)) ≡ [])
