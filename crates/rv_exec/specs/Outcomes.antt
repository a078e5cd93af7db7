-- How an instruction leaves its transaction: the outcomes of the code as those of the plain machine.
use Rattle.rv_exec.specs.declared.outcome.Outcome.{Outcome as CodeOutcome}
use Rattle.rv_exec.specs.declared.outcome.Outcome.TheVariants as code
use Rattle.rules_program.specs.Plain.{Outcome, Goes, Ended, Halted, Trapped}

abbrev pub outcome_of : CodeOutcome → Outcome
outcome_of code.Goes = Goes
outcome_of code.Ended = Ended
outcome_of (code.Halted c) = Halted c
outcome_of (code.Trapped c) = Trapped c

-- the transaction doesn't go on
abbrev pub HasEnded : Outcome → Type 0
HasEnded Goes = ⊥
HasEnded Ended = Unit {0}
HasEnded (Halted code) = Unit {0}
HasEnded (Trapped code) = Unit {0}
