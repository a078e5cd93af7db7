-- What is kept of the line is small, as all that is kept is.
use Rattle.std.proofs.Common.{◌≤◌, ◌^◌, arith}
use Rattle.std.specs.BTreeMap.{is_at}
use Rattle.std.specs.Ordering.{nat_cmp}
use Rattle.watch_count.specs.Places.{nothing_there}
use Rattle.watch_count.specs.Sizes.{line_size}
use Rattle.watch_count.proofs.Growth.{kept-or-fresh}
use Rattle.watch_count.proofs.counts.count_at_line.Goals as goal

pub count-requires : goal.count-requires
unfolding line_size
count-requires c =
    rw c.line_counts-counts.ensures
    (kept-or-fresh (λ n. line_size n ≤ 2 ^ 62) nothing_there (omega arith) (is_at (nat_cmp c.args.line))
    c.args.lines.now.entries c.requires)
