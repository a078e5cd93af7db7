use Rattle.std.proofs.Common.{sym, arith}
use Rattle.spec_cache.specs.Useful.{writes_in}
use Rattle.spec_cache.proofs.Tallied.{count-never, never-written, counted-small}
use Rattle.spec_cache.proofs.tracked.Tracked.write_count.Goals as goal

pub returns-then-home-dirs-clause-small : goal.returns-then-home-dirs-clause-small
returns-then-home-dirs-clause-small c =
    let below = rw c.dirs.ensures.value at c.if-home-dirs.true in
    let few = c.dirs.ensures.allowed.1.1 in
    counted-small (writes_in c.self.inside.config.dirs) c.self.inside.frames.items c.self.inside.written c.self.invariant.written
    c.self.invariant.small c.args.home (omega (arith, below, few))

pub returns-else-home-dirs-clause-number : goal.returns-else-home-dirs-clause-number
returns-else-home-dirs-clause-number c =
    rw (sym c.self.view_is) (sym (count-never (writes_in c.self.inside.config.dirs c.args.home) c.self.inside.frames.items
    (never-written c.self.inside.config.dirs c.dirs.ensures.allowed.1.0 c.dirs.ensures.allowed.1.1 c.args.home
    (rw c.dirs.ensures.value at c.if-home-dirs.false))))
