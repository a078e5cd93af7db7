use Rattle.std.proofs.Common.{sym}
use Rattle.spec_cache.specs.Home.{reads_in}
use Rattle.spec_cache.proofs.Tallied.{count-never, never-read}
use Rattle.spec_cache.proofs.tracked.Tracked.read_count.Goals as goal

pub returns-else-home-dirs : goal.returns-else-home-dirs
returns-else-home-dirs c =
    rw (sym c.self.view_is) (sym (count-never (reads_in c.self.inside.config.dirs c.args.home) c.self.inside.frames.items
    (never-read c.self.inside.config.dirs c.dirs.ensures.allowed.1.0 c.dirs.ensures.allowed.1.1 c.args.home
    (rw c.dirs.ensures.value at c.if-home-dirs.false))))
