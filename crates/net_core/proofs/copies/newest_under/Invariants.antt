-- The places so far.
use Rattle.net_core.proofs.Words.Places.{DoneBelow}
use Rattle.net_core.proofs.copies.newest_under.Given as goal

abbrev pub invariant-loop-k : goal.invariant-loop-k
invariant-loop-k l = DoneBelow l.mask.0 l.words l.tag.0 l.k l.fn.best l.best
