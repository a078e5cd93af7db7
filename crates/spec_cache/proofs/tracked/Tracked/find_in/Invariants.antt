use Rattle.std.proofs.Common.{◌≡◌, ◌<◌, ◌≤◌, ℕ, get_or, None, false}
use Rattle.spec_cache.specs.Frame.{holds_line}
use Rattle.spec_cache.proofs.tracked.Tracked.find_in.Given as goal

abbrev pub invariant-loop-at : goal.invariant-loop-at
invariant-loop-at l = (j : ℕ) → l.first ≤ j → j < l.at → holds_line l.line.0 (get_or l.self.frames j None) ≡ false
