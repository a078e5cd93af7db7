-- Line by line.
use Rattle.bus_watch.proofs.RollBacks.{violated-read}
use Rattle.bus_watch.proofs.violations_are_roll_backs.Goals as goal

pub returns : goal.returns
returns c = violated-read
