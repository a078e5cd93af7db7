-- What is kept of a core while a run goes on: the events since it came to its phase are added where its numbers are read.
use Rattle.std.specs.Prelude.{ℕ, ◌+◌, ◌-◌}
use Rattle.watch_count.specs.declared.tables.PhaseName.{PhaseName}
use Rattle.watch_count.specs.declared.tables.PhaseName.TheVariants as name
use Rattle.watch_count.specs.declared.tables.Phases.{Phases}
use Rattle.watch_count.specs.declared.tables.CoreCounts.{CoreCounts}
use Rattle.watch_count.specs.declared.kept.KeptCore.{KeptCore}
use Rattle.watch_count.specs.Tables.{nothing}

-- so many more events came in this phase
unfoldable pub stayed : (events : ℕ) → PhaseName → Phases → Phases
stayed n name.Running p = record p { running = p.running + n }
stayed n name.AwaitTid p = record p { await_tid = p.await_tid + n }
stayed n name.DoomedTid p = record p { doomed_tid = p.doomed_tid + n }
stayed n name.Probing p = record p { probing = p.probing + n }
stayed n name.Ready p = record p { ready = p.ready + n }
stayed n name.Overflowing p = record p { overflowing = p.overflowing + n }
stayed n name.Solo p = record p { solo = p.solo + n }
stayed n name.Halted p = record p { halted = p.halted + n }

-- the core's numbers when so many events have come
unfoldable pub numbers_after : (events : ℕ) → KeptCore → CoreCounts
numbers_after e k = record k.counts { phases = stayed (e - k.since) k.counts.phase k.counts.phases }

-- the events so far are added
abbrev pub settled : (events : ℕ) → KeptCore → KeptCore
settled e k = record { counts = numbers_after e k; since = e }

abbrev pub nothing_kept : KeptCore
nothing_kept = record { counts = nothing; since = 0 }
