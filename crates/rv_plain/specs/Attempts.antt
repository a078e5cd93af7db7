-- What the code's attempt stands for.
use Rattle.rv_exec.specs.Outcomes.{outcome_of}
use Rattle.rv_exec.specs.declared.outcome.Outcome.{Outcome as CodeOutcome}
use Rattle.rv_plain.specs.Buffered.{Buffered}
use Rattle.rv_plain.specs.Store.{Store, buffer_of}
use Rattle.rv_plain.specs.declared.attempt.Attempt.{Attempt}
use Rattle.rules_program.specs.Ram.{flat}

unfoldable pub attempt_of : Attempt → Store → CodeOutcome → Buffered
attempt_of a s o = record {
  local = a.state;
  ram = flat s.ram;
  buffer = buffer_of s.waiting;
  loads = a.loads;
  stores = a.stores;
  console = a.console;
  outcome = outcome_of o;
}
