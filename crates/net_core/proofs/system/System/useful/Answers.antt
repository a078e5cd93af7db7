-- Each number gives the next event.
use Rattle.std.proofs.Common.{sym, ◌∙◌, arith}
use Rattle.base_lemmas.proofs.Lemmas.{none-past}
use Rattle.net_core.proofs.Useful.Listed.{one-listed}
use Rattle.net_core.proofs.system.System.useful.Goals as goal
use Rattle.net_core.proofs.system.System.useful.Goals.{in-Some+in_ok-push, in_default}

pub loop-k-preserved : goal.loop-k-preserved
loop-k-preserved c = elim c.match-useful_at.branch [
  | in-Some+in_ok-push w ↦
      one-listed _ c.loop-k.events c.match-useful_at.events c.loop-k.k w.in-Some.e c.loop-k.invariant (sym w.in-Some.ensures)
      (w.events-is ∙ w.in_ok-push.ensures)
  | in_default w ↦ absurd (none-past _ c.loop-k.k (sym w.in_default.ensures) (omega arith))
]
