-- Messages are taken one by one.
use Rattle.apart_node.proofs.Porting.SeveralMoves.{takes-refl, takes-then}
use Rattle.apart_node.proofs.port.Port.gather.Goals as goal
use Rattle.apart_node.proofs.port.Port.gather.Goals.{in-None, in-Some+in_ok-take_in+then-not-branch}

pub loop-init : goal.loop-init
loop-init g c = takes-refl _

pub returns-in_err-take_in : goal.returns-in_err-take_in
returns-in_err-take_in g c = takes-then _ _ _ c.loop.invariant c.take_in.ensures

pub loop-preserved : goal.loop-preserved
loop-preserved g c = takes-then _ _ _ c.loop.invariant c.take_in.ensures

pub returns : goal.returns
returns g c =
    elim c.match-next.branch [
      | in-None w ↦ rw w.self-is c.loop.invariant
      | in-Some+in_ok-take_in+then-not-branch w ↦ rw w.self-is (takes-then _ _ _ c.loop.invariant w.take_in.ensures)
    ]
