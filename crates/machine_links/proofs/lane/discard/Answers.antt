-- From the front, or from behind it.
use Rattle.machine_links.proofs.Pieces.{rising-left, rising-right, taken-both, none-both}
use Rattle.machine_links.proofs.lane.discard.Goals as goal

pub discard-requires : goal.discard-requires
discard-requires c = rising-left c.args.front.now c.args.rest.now c.requires

pub discard-requires-in-None : goal.discard-requires-in-None
discard-requires-in-None c = rising-right c.args.front.now c.args.rest.now c.requires

pub returns-in-None-clause-some : goal.returns-in-None-clause-some
returns-in-None-clause-some c =
    taken-both c.args.front.now c.discard.new.self c.args.rest.now c.discard-in-None.new.self c.args.seq c.discard-in-None.result
    c.in-None.ensures.unchanged c.discard-in-None.ensures.some

pub returns-in-None-clause-none : goal.returns-in-None-clause-none
returns-in-None-clause-none c =
    none-both c.args.front.now c.args.rest.now c.args.seq c.discard-in-None.result c.in-None.ensures.none c.discard-in-None.ensures.none
