-- The parts by themselves as plain data.
use Rattle.machine_parts.specs.Parts.{PartsData}
use Rattle.machine_parts.specs.declared.parts.Fields.{Fields}

abbrev pub data_of : Fields → PartsData
data_of f = record { cores = f.cores; dirs = f.dirs; next = f.vendor; flights = f.flights; commits = f.commits; events = f.events }
