use Rattle.theorem_phases.proofs.Events.Asking.{one_request_each}
use Rattle.theorem_phases.proofs.one_request_each.Goals as goal

pub returns : goal.returns
returns c = record { one = one_request_each }
