-- At each place the newest of the home's copy and those of the cores so far.
use Rattle.std.proofs.Common.{◌≡◌, ◌<◌, ℕ}
use Rattle.rules_maps.specs.Words.{word_at}
use Rattle.net_core.specs.Copies.{nth_copy}
use Rattle.net_core.proofs.Words.Seen.{best_of}
use Rattle.net_core.proofs.system.System.seen_line.Given as goal

abbrev pub invariant-loop-c : goal.invariant-loop-c
invariant-loop-c l = (k : ℕ) → k < 8 → nth_copy l.best k ≡ best_of l.fn.self (word_at l.fn.line.0 k) l.c
