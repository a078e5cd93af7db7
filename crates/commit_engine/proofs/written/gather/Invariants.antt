use Rattle.spec_cache.specs.Held.{maps}
use Rattle.overflow_buf.specs.Kept.{spilled as words_of}
use Rattle.commit_engine.proofs.WrittenLines.{Gathered}
use Rattle.commit_engine.proofs.written.gather.Given as goal

abbrev pub invariant-loop-d : goal.invariant-loop-d
invariant-loop-d l = Gathered l.cfg (maps l.cache) (words_of l.spilled) l.d l.lines.items
