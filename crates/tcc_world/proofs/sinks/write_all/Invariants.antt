use Rattle.std.proofs.Common.{◌≤◌, ◌-◌, length, take}
use Rattle.std.specs.Io.KnownBytes.{Appends}
use Rattle.tcc_world.proofs.sinks.write_all.Given as goal

abbrev pub invariant-loop-done : goal.invariant-loop-done
invariant-loop-done g l = record {
  within : l.done ≤ length l.bytes;
  taken : Appends (g.S.Sink.page l.fn.sink).bytes (g.S.Sink.page l.sink).bytes (take l.done l.bytes);
  faults_stay : (g.S.Sink.page l.fn.sink).faults ≤ (g.S.Sink.page l.sink).faults;
}

abbrev pub decreases-loop-done : goal.decreases-loop-done
decreases-loop-done g l = length l.bytes - l.done
