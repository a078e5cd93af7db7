use Rattle.serial_tool.proofs.Running.{pieces-join}
use Rattle.serial_tool.proofs.laws.pieces_join.Goals as goal

pub returns : goal.returns
returns c = pieces-join
