-- What the first events note, and then what the others do.
use Rattle.watch_run.proofs.Printed.{consoles-join}
use Rattle.watch_run.proofs.consoles.consoles_join.Goals as goal

pub returns : goal.returns
returns c = consoles-join
