use Rattle.rules_program.proofs.Cores.{serial_takes_its_cores}
use Rattle.rules_program.proofs.serial_executions_take_their_cores.Goals as goal

pub returns : goal.returns
returns c = serial_takes_its_cores
