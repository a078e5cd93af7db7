use Rattle.std.proofs.Common.{refl}
use Rattle.rules_tcc.specs.CoreEvict.{core_evict}
use Rattle.core_node.specs.View.{core_of}
use Rattle.core_node.proofs.Emptied.{evict_enabled}
use Rattle.core_node.proofs.evicting.can_evict.Goals as goal

pub returns-in-None : goal.returns-in-None
unfolding core_evict core_of
returns-in-None c = rw c.in-None.ensures refl

pub returns-in-Some : goal.returns-in-Some
unfolding core_of
returns-in-Some c =
    evict_enabled c.args.core.now.config c.args.set c.args.way c.in-Some.line.0
    (core_of c.args.core.now) c.may_leave.result c.awaits.result c.in-Some.marked c.is_alone.result
    c.in-Some.ensures.0 c.may_leave.ensures c.awaits.ensures c.in-Some.ensures.1 c.is_alone.ensures
