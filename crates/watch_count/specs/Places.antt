-- What is counted of one line, and of one conflict: who committed, who was violated, and by which line.
use Rattle.std.specs.Prelude.{ℕ, ◌+◌, Option, Some, None}
use Rattle.rules_maps.specs.Nodes.{Inv}
use Rattle.watch.specs.Facts.{Fact, Missed, Took, Violated}
use Rattle.watch_count.specs.declared.places.LineCounts.{LineCounts}
use Rattle.watch_count.specs.declared.places.Conflict.{Conflict}
use Rattle.watch_count.specs.declared.places.ConflictCounts.{ConflictCounts}

abbrev pub nothing_there : LineCounts
nothing_there = record { misses = 0; invalidations = 0; violations = 0; lost = 0 }

-- the line that a fact counts for
abbrev pub line_of : Fact → Option ℕ
line_of (Missed c pc addr l) = Some l
line_of (Took (Inv l m t)) = Some l
line_of (Violated c by t l words lost p) = Some l
line_of _ = None

-- the misses of all cores; the invalidations that were taken; the violations by it, and the instructions that they lost
unfoldable pub line_after : Fact → LineCounts → LineCounts
line_after (Missed c pc addr l) n = record n { misses = n.misses + 1 }
line_after (Took (Inv l m t)) n = record n { invalidations = n.invalidations + 1 }
line_after (Violated c by t l words lost p) n = record n { violations = n.violations + 1; lost = n.lost + lost }
line_after _ n = n

abbrev pub no_conflict : ConflictCounts
no_conflict = record { violations = 0; lost = 0 }

abbrev pub conflict_of : Fact → Option Conflict
conflict_of (Violated c by t l words lost p) = Some (record { by = by; victim = c; line = l })
conflict_of _ = None

unfoldable pub conflict_after : Fact → ConflictCounts → ConflictCounts
conflict_after (Violated c by t l words lost p) n = record n { violations = n.violations + 1; lost = n.lost + lost }
conflict_after _ n = n
