use Rattle.spec_cache.proofs.Calls.{all_read_cleared}
use Rattle.spec_cache.proofs.frames.Frames.clear_read.Goals as goal

pub returns-clause-maps : goal.returns-clause-maps
returns-clause-maps g c = all_read_cleared (g.Self.Ways.held c.args.self.now) c.change.ensures.in_order _ c.change.ensures.frames
