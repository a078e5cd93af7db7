-- Each port that was rung at gathers.
use Rattle.std.specs.Prelude.{slice_get}
use Rattle.apart_node.specs.Moves.{Takes}
use Rattle.apart_node.proofs.Porting.ChangedElement.{each-then}
use Rattle.apart_node.proofs.Porting.SeveralMoves.{both-refl, takes-refl, takes-then}
use Rattle.apart_node.proofs.room.gather_rung.Goals as goal

pub loop-init : goal.loop-init
loop-init g c = (λ k. both-refl Takes (slice_get c.args.ports.now k) takes-refl, c.requires.tallied)

pub returns-in_err-gather_at-clause-takes : goal.returns-in_err-gather_at-clause-takes
returns-in_err-gather_at-clause-takes g c =
    each-then Takes c.args.ports.now c.loop.ports c.gather_at.new.ports takes-then c.loop.invariant.0 c.gather_at.ensures.takes

pub loop-preserved : goal.loop-preserved
loop-preserved g c = (
  each-then Takes c.args.ports.now c.loop.ports c.gather_at.new.ports takes-then c.loop.invariant.0 c.gather_at.ensures.takes,
  c.gather_at.ensures.tallied,
)
