-- The numbers so far are the same.
use Rattle.std.proofs.Common.{◌≡◌, drop}
use Rattle.checkpoint_text.specs.Directories.{are_same}
use Rattle.checkpoint_text.proofs.dir_rows.are_same.Given as goal

abbrev pub invariant-loop-k : goal.invariant-loop-k
invariant-loop-k l = are_same l.now l.first ≡ are_same (drop l.k l.now) (drop l.k l.first)
