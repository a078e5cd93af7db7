use Rattle.std.proofs.Common.{All, ◌<◌, ap, subst, sym, ◌∙◌}
use Rattle.image_load.specs.Contents.{Contents}
use Rattle.serial_tool.specs.Runs.{Beginning, HasNoSerialFrom, IsRunFaultFrom, serial_from}
use Rattle.serial_tool.proofs.Running.{begins-at-start}
use Rattle.serial_tool.proofs.execution.run_orders.Goals as goal

pub run_from-requires : goal.run_from-requires
run_from-requires c =
    subst (λ (l : Contents). All (λ o. o.order.core.0 < l.settings.cores) c.args.orders.now) (sym c.in-Ok.ensures.loaded) c.requires

pub returns-in-Ok-run_from-clause-executed : goal.returns-in-Ok-run_from-clause-executed
returns-in-Ok-run_from-clause-executed c =
    let at = begins-at-start c.args.loaded.now c.in-Ok.machine c.in-Ok.ensures.loaded c.in-Ok.ensures.started in
    sym (ap (λ (b : Beginning). serial_from b c.args.orders.now) at) ∙ c.in-Ok-run_from.ensures.executed

pub returns-in-Err-run_from-clause-fault : goal.returns-in-Err-run_from-clause-fault
returns-in-Err-run_from-clause-fault c =
    let at = begins-at-start c.args.loaded.now c.in-Ok.machine c.in-Ok.ensures.loaded c.in-Ok.ensures.started in
    subst (λ (b : Beginning). IsRunFaultFrom b c.args.orders.now c.in-Err-run_from.fault) at c.in-Err-run_from.ensures.fault

pub returns-in-Err-run_from-clause-none : goal.returns-in-Err-run_from-clause-none
returns-in-Err-run_from-clause-none c =
    let at = begins-at-start c.args.loaded.now c.in-Ok.machine c.in-Ok.ensures.loaded c.in-Ok.ensures.started in
    subst (λ (b : Beginning). HasNoSerialFrom b c.args.orders.now c.in-Err-run_from.fault) at c.in-Err-run_from.ensures.none
