-- The last of the list, where it isn't empty.
use Rattle.watch_core.proofs.Lasts.{loaded-last, loaded-none}
use Rattle.watch_core.proofs.executing.last_loaded.Goals as goal

pub returns-in-Some : goal.returns-in-Some
returns-in-Some c = loaded-last c.args.loads.now c.in-Some.load.now c.in-Some.ensures.value

pub returns-in-None : goal.returns-in-None
returns-in-None c = loaded-none c.args.loads.now c.in-None.ensures.value
