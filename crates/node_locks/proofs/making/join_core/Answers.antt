-- A core's ports are all made.
use Rattle.std.proofs.Common.{◌≡◌, ◌+◌, subst, rules}
use Rattle.node_locks.specs.Joining.{AreJoinedTo}
use Rattle.node_locks.proofs.Joining.{next-core}
use Rattle.node_locks.proofs.making.join_core.Goals as goal

pub returns : goal.returns
returns c =
    let all : c.loop-k.k ≡ c.args.config.now.dirs + 1 = search rules in
    next-core c.args.config.now c.args.core c.loop-k.rooms c.requires.core
    (subst (λ k. AreJoinedTo c.args.config.now c.args.core k c.loop-k.rooms) all c.loop-k.invariant)
