use Rattle.serial_tool.proofs.Alike.{machines-alike}
use Rattle.serial_tool.proofs.laws.texts_tell_machines_apart.Goals as goal

pub returns : goal.returns
returns c = machines-alike
