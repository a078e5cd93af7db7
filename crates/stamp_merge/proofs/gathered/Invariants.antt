use Rattle.std.proofs.Common.{◌≡◌, take}
use Rattle.std.specs.List.{flat_map}
use Rattle.stamp_merge.proofs.gathered.Given as goal

abbrev pub invariant-loop-log : goal.invariant-loop-log
invariant-loop-log l = l.entries.items ≡ flat_map (λ log. log) (take l.log-index l.logs)
