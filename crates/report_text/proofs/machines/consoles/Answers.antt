-- What one core more printed.
use Rattle.std.proofs.Common.{◌∙◌}
use Rattle.report_text.proofs.OneMore.{one-more}
use Rattle.report_text.proofs.machines.consoles.Goals as goal

pub loop-c-preserved : goal.loop-c-preserved
loop-c-preserved g c =
    c.in_ok-push.ensures
    ∙ one-more (λ core. ((g.M.ShownCores.plain c.args.machine.now).cores core).console) c.loop-c.c c.loop-c.consoles
    c.in_ok-console.field-0 c.loop-c.invariant c.in_ok-console.ensures
