-- The lines so far are struck.
use Rattle.std.proofs.Common.{◌≡◌}
use Rattle.core_node.specs.View.{core_of}
use Rattle.bus_tcc.proofs.TakenLines.{Strikes}
use Rattle.bus_tcc.proofs.take.strike_all.Given as goal

abbrev pub invariant-loop-line : goal.invariant-loop-line
invariant-loop-line l = record {
  so_far : Strikes l.lines l.line-index (core_of l.fn.core) (core_of l.core) l.read;
  config : l.core.config ≡ l.fn.core.config;
  id : l.core.id ≡ l.fn.core.id;
}
