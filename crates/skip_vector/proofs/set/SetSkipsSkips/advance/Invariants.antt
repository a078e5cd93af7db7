use Rattle.std.proofs.Common.{◌≡◌, ◌+◌, ◌^◌, ◌≤◌, length}
use Rattle.rules_maps.specs.Serving.{serve_from}
use Rattle.skip_vector.specs.Window.{window, Rises}
use Rattle.skip_vector.proofs.set.SetSkipsSkips.advance.Given as goal

abbrev pub invariant-loop-self : goal.invariant-loop-self
invariant-loop-self l =
    (serve_from l.self-inside.serving (window l.self-inside.serving l.self-inside.later.keys) ≡ serve_from
    (l.fn.self.serving + 1) l.fn.self.skips)
    × (l.self-inside.serving ≤ 2 ^ 62 + 1)
    × Rises l.self-inside.serving l.self-inside.later.keys

abbrev pub decreases-loop-self : goal.decreases-loop-self
decreases-loop-self l = length l.self-inside.later.keys
