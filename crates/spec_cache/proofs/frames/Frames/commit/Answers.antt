use Rattle.spec_cache.proofs.Calls.{all_committed}
use Rattle.spec_cache.proofs.frames.Frames.commit.Goals as goal

pub returns-clause-maps : goal.returns-clause-maps
returns-clause-maps g c = all_committed (g.Self.Ways.held c.args.self.now) c.change.ensures.in_order c.args.tid.0 _ c.change.ensures.frames
