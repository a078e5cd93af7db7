use Rattle.std.proofs.Common.{◌≡◌, ◌+◌, ◌^◌, ◌<◌, ◌≤◌, length}
use Rattle.rules_maps.specs.Serving.{serve_from}
use Rattle.skip_vector.proofs.ring.RingSkipsSkips.advance.Given as goal

abbrev pub invariant-loop-self : goal.invariant-loop-self
invariant-loop-self l =
    (serve_from l.self-inside.serving l.self-inside.ahead.items ≡ serve_from (l.fn.self.serving + 1) l.fn.self.skips)
    × (0 < length l.self-inside.ahead.items → l.self-inside.serving + length l.self-inside.ahead.items ≤ 2 ^ 62)
    × (l.self-inside.serving ≤ 2 ^ 62 + 1)

abbrev pub decreases-loop-self : goal.decreases-loop-self
decreases-loop-self l = length l.self-inside.ahead.items
