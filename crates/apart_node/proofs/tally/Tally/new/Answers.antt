-- At first nothing waits.
use Rattle.apart_node.proofs.Picking.Tallied.{unused-tallied}
use Rattle.apart_node.proofs.tally.Tally.new.Goals as goal

pub returns : goal.returns
returns c = rw (c.in_ok-new.ensures, c.in_ok-new-2.ensures) (unused-tallied c.args.ports.now c.requires.unused)
