use Rattle.rules_program.proofs.Serials.{serial-append}
use Rattle.rules_program.proofs.serial_executions_join.Goals as goal

pub returns : goal.returns
returns c = serial-append
