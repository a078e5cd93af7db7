use Rattle.std.proofs.Common.{sym}
use Rattle.spec_cache.proofs.Tallied.{any-read}
use Rattle.spec_cache.proofs.set_frames.SetFramesWays.any_reads_at.Goals as goal

pub returns-clause-any : goal.returns-clause-any
returns-clause-any c =
    rw (sym c.self.view_is) (any-read c.self.inside.ways.config.dirs c.args.home.0 c.self.inside.ways.frames c.read_count.result
    c.read_count.ensures)
