-- The same machine with fewer commits.
use Rattle.std.proofs.Common.{ap}
use Rattle.net_core.specs.Inside.{machine_of}
use Rattle.net_core.specs.Machine.{world_of}
use Rattle.net_core.proofs.Gone.{forgot-whole}
use Rattle.net_core.proofs.system.System.forget.Goals as goal

pub invariant_of-self : goal.invariant_of-self
invariant_of-self c =
    forgot-whole (machine_of c.self.inside) c.forget_before.new.self.list c.forget_before.new.self.room _
    c.self.invariant c.forget_before.ensures.forgets

pub returns-clause-world : goal.returns-clause-world
unfolding world_of
returns-clause-world c = ap world_of c.self.view_is
