-- The total so far, with the cores that are left, is that of all; and it is small.
use Rattle.std.proofs.Common.{◌≡◌, ◌*◌, ◌^◌, ◌≤◌, drop, map}
use Rattle.watch_count.specs.KeptCores.{numbers_after}
use Rattle.watch_count.specs.Totals.{cores_after, all_cores}
use Rattle.watch_count.specs.Sizes.{core_size}
use Rattle.watch_count.proofs.totals.all_cores.Given as goal

abbrev pub invariant-loop-core : goal.invariant-loop-core
invariant-loop-core l = record {
  total : cores_after l.total (map (numbers_after l.events) (drop l.core-index l.cores)) ≡ all_cores (map (numbers_after l.events) l.cores);
  small : core_size l.total ≤ l.core-index * 2 ^ 56;
}
