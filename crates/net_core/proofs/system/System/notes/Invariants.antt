-- The cores so far.
use Rattle.std.proofs.Common.{◌≡◌, ◌<◌, ℕ, []}
use Rattle.rules_maps.specs.Shape.{lines}
use Rattle.rules_maps.specs.Words.{line_of}
use Rattle.rules_tcc.specs.Seen.{copies_of}
use Rattle.net_core.specs.Away.{Covers}
use Rattle.net_core.specs.Machine.{settings_of, world_of}
use Rattle.net_core.proofs.system.System.notes.Given as goal

abbrev pub invariant-loop-c : goal.invariant-loop-c
invariant-loop-c l =
    Covers l.initial.notes.items l.notes.items
    (λ k. (n : ℕ) → n < l.c → k < lines (settings_of l.fn.self) → (w : ℕ) → line_of w ≡ k
    → copies_of (settings_of l.fn.self) (world_of l.fn.self) w n ≡ [])
