-- What was sent goes onto the links, and what has arrived is taken from them.
use Rattle.apart_node.proofs.Keeping.Gathering.{flushes-gather, gathers-then}
use Rattle.apart_node.proofs.node.Node.refresh.Goals as goal

pub returns-in_err-flush-clause-gathers : goal.returns-in_err-flush-clause-gathers
returns-in_err-flush-clause-gathers g c = flushes-gather _ _ c.flush.ensures.flushes

pub returns-clause-gathers : goal.returns-clause-gathers
returns-clause-gathers g c = gathers-then _ _ _ (flushes-gather _ _ c.flush.ensures.flushes) c.gather.ensures.gathers
