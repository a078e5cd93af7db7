-- The lines so far are clean.
use Rattle.std.proofs.Common.{◌≡◌, drop}
use Rattle.core_node.specs.View.{core_of}
use Rattle.bus_tcc.specs.Cleaning.{cleaned_by}
use Rattle.bus_tcc.proofs.cleaning.clean_all.Given as goal

abbrev pub invariant-loop-line : goal.invariant-loop-line
invariant-loop-line l = record {
  so_far : cleaned_by (drop l.line-index l.lines) (core_of l.core) ≡ cleaned_by l.lines (core_of l.fn.core);
  config : l.core.config ≡ l.fn.core.config;
  id : l.core.id ≡ l.fn.core.id;
}
