-- The last of the list, where it isn't empty.
use Rattle.watch_core.proofs.Lasts.{stored-last, stored-none}
use Rattle.watch_core.proofs.executing.last_stored.Goals as goal

pub returns-in-Some : goal.returns-in-Some
returns-in-Some c = stored-last c.args.stores.now c.in-Some.stored.now c.in-Some.ensures.value

pub returns-in-None : goal.returns-in-None
returns-in-None c = stored-none c.args.stores.now c.in-None.ensures.value
