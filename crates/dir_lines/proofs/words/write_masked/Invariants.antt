use Rattle.dir_lines.specs.Words.{IsWritten}
use Rattle.dir_lines.proofs.words.write_masked.Given as goal

abbrev pub invariant-loop-k : goal.invariant-loop-k
invariant-loop-k l = IsWritten l.at l.mask.0 l.k l.words l.fn.all l.all
