use Rattle.std.proofs.Common.{◌≡◌, refl}
use Rattle.rules_program.specs.Program.{Nothing}
use Rattle.image_load.specs.Contents.{started}
use Rattle.rv_exec.specs.Effects.{planned}
use Rattle.rv_exec.specs.Needs.{need_of}
use Rattle.rv_exec.specs.Running.{alone}
use Rattle.core_node.specs.View.{core_of}
use Rattle.core_node.proofs.AtOnce.{quick_nothing}
use Rattle.core_node.proofs.InstAtPc.{executed_as}
use Rattle.core_node.proofs.quick.here_quickly.Goals as goal

pub returns-then-needs_nothing-clause-does : goal.returns-then-needs_nothing-clause-does
unfolding core_of started
returns-then-needs_nothing-clause-does c =
    let k = c.args.core.now in
    let e : planned c.in-Ok.inst k.state ≡ Nothing = c.needs_nothing.ensures c.if-needs_nothing.true k.state in
    rw (executed_as k.config (started c.args.code.now) k.id.0 (core_of k) c.in-Ok.inst Nothing c.in-Ok.ensures (rw e refl))
    (quick_nothing k.config (alone c.in-Ok.inst) k.id.0 (core_of k) (core_of c.advance.new.core) c.advance.ensures.does)

pub returns-else-needs_nothing-clause-does : goal.returns-else-needs_nothing-clause-does
unfolding core_of started
returns-else-needs_nothing-clause-does c =
    let k = c.args.core.now in
    rw (executed_as k.config (started c.args.code.now) k.id.0 (core_of k) c.in-Ok.inst
    (need_of c.plan-need.result) c.in-Ok.ensures c.plan-need.ensures.need)
    c.need_quickly.ensures.does
