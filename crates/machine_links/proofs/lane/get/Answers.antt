-- In front, or behind it.
use Rattle.std.proofs.Common.{sym, ◌∙◌}
use Rattle.machine_links.proofs.Pieces.{rising-left, rising-right, held-here, held-behind}
use Rattle.machine_links.proofs.lane.get.Goals as goal

pub get-requires : goal.get-requires
get-requires c = rising-left c.args.front.now c.args.rest.now c.requires

pub get-requires-in-None : goal.get-requires-in-None
get-requires-in-None c = rising-right c.args.front.now c.args.rest.now c.requires

pub returns-in-Some : goal.returns-in-Some
returns-in-Some c = sym (held-here c.args.front.now c.args.rest.now c.args.seq c.in-Some.held.now (sym c.in-Some.ensures))

pub returns-in-None : goal.returns-in-None
returns-in-None c = c.get-in-None.ensures ∙ sym (held-behind c.args.front.now c.args.rest.now c.args.seq (sym c.in-None.ensures))
