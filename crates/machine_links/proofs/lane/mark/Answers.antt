-- In front, or behind it.
use Rattle.machine_links.proofs.Pieces.{rising-left, rising-right, marked-left, marked-both, none-both}
use Rattle.machine_links.proofs.lane.mark.Goals as goal

pub set_ready-requires : goal.set_ready-requires
set_ready-requires c = rising-left c.args.front.now c.args.rest.now c.requires

pub set_ready-requires-in-None : goal.set_ready-requires-in-None
set_ready-requires-in-None c = rising-right c.args.front.now c.args.rest.now c.requires

pub returns-in-Some-clause-some : goal.returns-in-Some-clause-some
returns-in-Some-clause-some c =
    marked-left c.args.front.now c.args.rest.now c.set_ready.new.self c.args.seq c.args.ready c.in-Some.was c.in-Some.ensures.some

pub returns-in-None-clause-some : goal.returns-in-None-clause-some
returns-in-None-clause-some c =
    marked-both c.args.front.now c.set_ready.new.self c.args.rest.now c.set_ready-in-None.new.self c.args.seq c.args.ready
    c.set_ready-in-None.result c.in-None.ensures.unchanged c.set_ready-in-None.ensures.some

pub returns-in-None-clause-none : goal.returns-in-None-clause-none
returns-in-None-clause-none c =
    none-both c.args.front.now c.args.rest.now c.args.seq c.set_ready-in-None.result c.in-None.ensures.none
    c.set_ready-in-None.ensures.none
