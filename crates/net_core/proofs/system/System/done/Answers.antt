-- The three tests together.
use Rattle.std.proofs.Common.{◌∙◌, sym}
use Rattle.net_core.proofs.Finished.{where-loud, where-quiet, where-unsettled}
use Rattle.net_core.proofs.system.System.done.Goals as goal
use Rattle.net_core.proofs.system.System.done.Goals.{then-is_settled, else-is_settled}

pub returns-then-is_empty : goal.returns-then-is_empty
returns-then-is_empty c = elim c.if-is_settled.branch [
  | then-is_settled w ↦
      where-quiet _ c.args.self.now c.all_rest.result c.self.invariant c.self.view_is (c.is_settled.ensures.0 w.if-is_settled.true)
      (w.is_empty.ensures.quiet.0 (sym w.value-is ∙ c.if-is_empty.true)) c.all_rest.ensures
  | else-is_settled w ↦ absurd (cc)
]

pub returns-else-is_empty : goal.returns-else-is_empty
returns-else-is_empty c = elim c.if-is_settled.branch [
  | then-is_settled w ↦
      where-loud _ c.args.self.now c.if-is_settled.value w.is_empty.result c.self.view_is c.if-is_empty.false
      (sym w.value-is ∙ c.if-is_empty.false) w.is_empty.ensures.quiet
  | else-is_settled w ↦
      where-unsettled c.args.self.now c.if-is_settled.value c.is_settled.result c.if-is_empty.false w.if-is_settled.false
      c.is_settled.ensures
]
