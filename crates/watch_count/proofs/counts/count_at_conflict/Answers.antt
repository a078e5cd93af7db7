-- What is kept of the conflict is small, as all that is kept is.
use Rattle.std.proofs.Common.{◌≤◌, ◌^◌, arith}
use Rattle.std.specs.BTreeMap.{is_at}
use Rattle.watch_count.specs.Counts.{conflict_cmp}
use Rattle.watch_count.specs.Places.{no_conflict}
use Rattle.watch_count.specs.Sizes.{conflict_size}
use Rattle.watch_count.proofs.Growth.{kept-or-fresh}
use Rattle.watch_count.proofs.counts.count_at_conflict.Goals as goal

pub count-requires : goal.count-requires
unfolding conflict_size
count-requires c =
    rw c.conflict_counts-counts.ensures
    (kept-or-fresh (λ n. conflict_size n ≤ 2 ^ 62) no_conflict (omega arith) (is_at (conflict_cmp c.args.conflict))
    c.args.conflicts.now.entries c.requires)
