use Rattle.theorem_bus.proofs.Serial.Given.{bus_runs_give_the_plain_machine, bus_tids_count}
use Rattle.theorem_bus.proofs.bus_runs_give_the_plain_machine.Goals as goal

pub returns : goal.returns
returns c = record { given = bus_runs_give_the_plain_machine; tids = bus_tids_count }
