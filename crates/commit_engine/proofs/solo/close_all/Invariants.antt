use Rattle.std.proofs.Common.{map}
use Rattle.spec_cache.specs.Home.{mark_of}
use Rattle.commit_engine.specs.Sent.{Sent, to_first}
use Rattle.commit_engine.specs.Solo.{closing}
use Rattle.commit_engine.proofs.solo.close_all.Given as goal

abbrev pub invariant-loop-d : goal.invariant-loop-d
invariant-loop-d l = record { sent : Sent l.fn.out l.out (to_first l.d (closing l.cfg (map mark_of l.marks) l.tid.0)) l.d }
