use Rattle.std.proofs.Common.{◌≤◌, ◌^◌, length}
use Rattle.std.specs.Io.KnownBytes.{Consumes}
use Rattle.tcc_world.proofs.disk_store.read_to_end.Given as goal

abbrev pub invariant-chunks : goal.invariant-chunks
invariant-chunks g l = record {
  within : length l.bytes.items ≤ 2 ^ 28;
  so_far : Consumes (g.F.Read.remaining l.fn.file) (g.F.Read.remaining l.file) l.bytes.items;
}
