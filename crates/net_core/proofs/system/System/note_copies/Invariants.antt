-- The directories so far.
use Rattle.std.proofs.Common.{◌≡◌, ◌<◌, ℕ, []}
use Rattle.rules_maps.specs.Nodes.{Core, Dir}
use Rattle.rules_maps.specs.Words.{line_of}
use Rattle.rules_tcc.specs.Seen.{copies_on}
use Rattle.machine_links.specs.Flights.{net_of}
use Rattle.net_core.specs.Away.{Covers}
use Rattle.net_core.proofs.system.System.note_copies.Given as goal

abbrev pub invariant-loop-d : goal.invariant-loop-d
invariant-loop-d l =
    Covers l.fn.notes l.notes
    (λ k. (d : ℕ) → d < l.d → (w : ℕ) → line_of w ≡ k → copies_on w (net_of l.fn.self.flights (Core l.fn.core.0) (Dir d)) ≡ [])
