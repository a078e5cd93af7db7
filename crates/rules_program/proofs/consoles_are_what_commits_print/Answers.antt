use Rattle.rules_program.proofs.Cores.{consoles_are_printed}
use Rattle.rules_program.proofs.consoles_are_what_commits_print.Goals as goal

pub returns : goal.returns
returns c = consoles_are_printed
