use Rattle.std.proofs.Common.{map, take}
use Rattle.spec_cache.specs.Home.{mark_of}
use Rattle.overflow_buf.specs.Kept.{spilled as words_of}
use Rattle.commit_engine.specs.Sent.{Sent}
use Rattle.commit_engine.specs.Solo.{at_homes, spilled_back}
use Rattle.commit_engine.proofs.solo.send_backs.Given as goal

abbrev pub invariant-loop-line : goal.invariant-loop-line
invariant-loop-line l = record {
  sent : Sent l.fn.out l.out (at_homes l.cfg (spilled_back (words_of l.spilled) l.tid.0) (map mark_of (take l.line-index l.marks)))
      l.line-index;
}
