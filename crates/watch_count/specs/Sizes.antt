-- How large numbers can be: the numbers of one core together, and what a fact adds to them at most.
use Rattle.std.specs.Prelude.{ℕ, ◌+◌}
use Rattle.watch.specs.Facts.{Fact, Violated, Committed}
use Rattle.watch_count.specs.declared.tables.Attempts.{Attempts}
use Rattle.watch_count.specs.declared.tables.Instructions.{Instructions}
use Rattle.watch_count.specs.declared.tables.Accesses.{Accesses}
use Rattle.watch_count.specs.declared.tables.Evictions.{Evictions}
use Rattle.watch_count.specs.declared.tables.Phases.{Phases}
use Rattle.watch_count.specs.declared.tables.CoreCounts.{CoreCounts}
use Rattle.watch_count.specs.declared.messages.MessageCounts.{MessageCounts}
use Rattle.watch_count.specs.declared.places.LineCounts.{LineCounts}
use Rattle.watch_count.specs.declared.places.ConflictCounts.{ConflictCounts}

unfoldable pub attempts_size : Attempts → ℕ
attempts_size a = a.begun + a.committed + a.violated + a.still_open + a.unbroken + a.gave_up

unfoldable pub instructions_size : Instructions → ℕ
instructions_size i = i.executed + i.committed + i.lost + i.still_open

unfoldable pub accesses_size : Accesses → ℕ
accesses_size a = a.loads + a.stores + a.changes + a.misses + a.fills + a.overflows

unfoldable pub evictions_size : Evictions → ℕ
evictions_size e = e.clean + e.dirty + e.modified

unfoldable pub phases_size : Phases → ℕ
phases_size p = p.running + p.await_tid + p.doomed_tid + p.probing + p.ready + p.overflowing + p.solo + p.halted

abbrev pub core_size : CoreCounts → ℕ
core_size c =
    attempts_size c.attempts + instructions_size c.instructions + accesses_size c.accesses + evictions_size c.evictions
    + phases_size c.phases

unfoldable pub messages_size : MessageCounts → ℕ
messages_size m = m.sent + m.took + m.dropped + m.asked

unfoldable pub line_size : LineCounts → ℕ
line_size n = n.misses + n.invalidations + n.violations + n.lost

unfoldable pub conflict_size : ConflictCounts → ℕ
conflict_size n = n.violations + n.lost

-- no number grows by more than this
unfoldable pub weight : Fact → ℕ
weight (Violated c by t l words lost p) = lost + 5
weight (Committed t c n) = n + 5
weight _ = 5
