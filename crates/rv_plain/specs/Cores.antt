-- What the code's core stands for between two transactions.
use Rattle.std.specs.Prelude.{[], None}
use Rattle.rv_plain.specs.declared.plain.CoreState.{CoreState}
use Rattle.tcc_base.specs.declared.access.CoreEnd.TheVariants.{Halt}
use Rattle.rules_program.specs.Plain.{PlainCore}

abbrev pub core_of : CoreState → PlainCore
core_of c = record { local = c.state; ended = c.ended; console = c.console }

abbrev pub no_state : CoreState
no_state = record { state = record { regs = []; pc = 0; reserved = None }; ended = Halt 0; console = [] }
