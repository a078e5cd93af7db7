-- The TID that was read is the one that is served.
use Rattle.std.proofs.Common.{◌∙◌}
use Rattle.std.specs.Prelude.{nat_lt}
use Rattle.net_core.specs.Machine.{world_of}
use Rattle.live_core.specs.declared.reason.Reason.TheVariants.{Early}
use Rattle.live_core.proofs.Tables.{probe-so, tested}
use Rattle.live_core.proofs.waiting.probe_waits.Goals as goal

pub returns : goal.returns
returns c =
    let served = c.serving-serving.result in
    tested c.then_some.result (nat_lt served.0 c.args.tid.0) (Early served) c.then_some.ensures
    ∙ probe-so c.args.tid.0 served.0 ((world_of c.args.system.now).dirs c.args.dir.0) c.serving-serving.ensures
