-- The numbers of what is kept so far, with the cores that are left, are those of all cores.
use Rattle.std.proofs.Common.{◌≡◌, ◌≤◌, ◌++◌, All, drop, map}
use Rattle.watch_count.specs.KeptCores.{numbers_after}
use Rattle.watch_count.proofs.restoring.kept_cores.Given as goal

abbrev pub invariant-loop-core : goal.invariant-loop-core
invariant-loop-core l = record {
  numbers : map (numbers_after 0) l.kept.items ++ drop l.core-index l.cores ≡ l.cores;
  since : All (λ k. k.since ≤ 0) l.kept.items;
}
