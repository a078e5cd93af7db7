-- The cores so far are kept and told.
use Rattle.std.proofs.Common.{string_bytes}
use Rattle.bus_changes.specs.Plain.{core_records_now}
use Rattle.bus_changes.proofs.Begun.{Begun}
use Rattle.bus_changes.proofs.cores.begin_cores.Given as goal

abbrev pub invariant-loop-core : goal.invariant-loop-core
invariant-loop-core l = Begun (core_records_now l.system) l.core l.lists (string_bytes l.fn.text) (string_bytes l.text)
