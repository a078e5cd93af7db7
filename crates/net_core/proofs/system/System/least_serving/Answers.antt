-- One directory after another.
use Rattle.std.proofs.Common.{◌+◌, subst, sym}
use Rattle.net_core.specs.Forgotten.{IsLeast}
use Rattle.net_core.proofs.Gone.{least-first, least-more}
use Rattle.net_core.proofs.system.System.least_serving.Goals as goal

pub loop-d-init : goal.loop-d-init
loop-d-init c = least-first c.args.self.now _ c.serving-least.ensures

pub loop-d-preserved : goal.loop-d-preserved
loop-d-preserved c =
    subst (IsLeast c.args.self.now (c.loop-d.d + 1)) (sym c.min-least.ensures)
    (least-more c.args.self.now c.loop-d.d c.loop-d.least c.serving.result.0 c.loop-d.invariant c.serving.ensures)
