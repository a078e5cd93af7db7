use Rattle.std.proofs.Common.{◌≡◌, Option, Some, None, refl, ap, ◌∙◌}
use Rattle.commit_engine.specs.Engine.{phase_of}
use Rattle.core_node.specs.AtHand.{executes}
use Rattle.core_node.specs.View.{awaited_of, core_of}
use Rattle.core_node.specs.declared.state.Awaited.{Awaited}
use Rattle.core_node.specs.declared.state.Core.{Core}
use Rattle.core_node.proofs.node.CoreNode.exec_from.Goals as goal

none-awaited : (o : Option Awaited) → awaited_of o ≡ None → o ≡ None
none-awaited None e = refl
none-awaited (Some a) e = cc

pub exec_from-requires-clause-executes : goal.exec_from-requires-clause-executes
unfolding core_of
exec_from-requires-clause-executes c = ap (λ (k : Core). executes (phase_of k.phase)) c.self.view_is ∙ c.requires.executes

pub exec_from-requires-clause-idle : goal.exec_from-requires-clause-idle
unfolding core_of
exec_from-requires-clause-idle c =
    none-awaited _ (ap (λ (k : Core). awaited_of k.awaited) c.self.view_is ∙ c.requires.idle)
