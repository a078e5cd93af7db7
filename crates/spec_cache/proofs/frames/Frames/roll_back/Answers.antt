use Rattle.spec_cache.proofs.Calls.{all_rolled_back}
use Rattle.spec_cache.proofs.frames.Frames.roll_back.Goals as goal

pub returns-clause-maps : goal.returns-clause-maps
returns-clause-maps g c = all_rolled_back (g.Self.Ways.held c.args.self.now) c.change.ensures.in_order _ c.change.ensures.frames
