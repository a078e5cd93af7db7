use Rattle.theorem_bus.proofs.Serial.Commits.{bus_runs_are_serial}
use Rattle.theorem_bus.proofs.bus_runs_are_serial.Goals as goal

pub returns : goal.returns
returns c = record { serial = bus_runs_are_serial }
