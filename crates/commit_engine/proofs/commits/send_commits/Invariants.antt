use Rattle.spec_cache.specs.Held.{maps}
use Rattle.commit_engine.specs.Sent.{Sent, to_first}
use Rattle.commit_engine.proofs.Noting.{commit_at}
use Rattle.commit_engine.proofs.commits.send_commits.Given as goal

abbrev pub invariant-loop-d : goal.invariant-loop-d
invariant-loop-d l = record { sent : Sent l.fn.out l.out (to_first l.d (commit_at l.cfg (maps l.cache) l.tid.0)) l.d }
