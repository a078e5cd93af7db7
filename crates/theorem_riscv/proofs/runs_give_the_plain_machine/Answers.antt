use Rattle.theorem_riscv.proofs.Given.{runs_give_the_plain_machine}
use Rattle.theorem_riscv.proofs.runs_give_the_plain_machine.Goals as goal

pub returns : goal.returns
returns c = record { given = runs_give_the_plain_machine }
