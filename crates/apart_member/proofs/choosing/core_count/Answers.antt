-- The execution and the useful evictions, counted.
use Rattle.image_load.specs.Contents.{started}
use Rattle.rv_code.specs.Machine.{program}
use Rattle.core_node.specs.View.{core_of}
use Rattle.apart_member.proofs.Choices.{count-fits, count-is}
use Rattle.apart_member.proofs.choosing.core_count.Goals as goal

pub overflow_add-result : goal.overflow_add-result
overflow_add-result c =
    count-fits c.args.core.now.config (program (started c.args.code.now)) (core_of c.args.core.now) c.uses-may_execute.result.0
    c.uses-may_execute.result.1 c.requires.allowed c.uses-may_execute.ensures.evicts

pub returns : goal.returns
returns c =
    let u = c.uses-may_execute in
    count-is c.args.core.now.config (program (started c.args.code.now)) c.args.core.now.id.0 (core_of c.args.core.now) u.result.0
    u.result.1 u.ensures.exec u.ensures.evicts
