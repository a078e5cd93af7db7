-- What is counted of one core, table by table: what one fact of the core adds to the numbers. All numbers begin at 0.
use Rattle.std.specs.Prelude.{◌+◌, ◌==◌, ◌&&◌, max, if◌then◌else◌}
use Rattle.rules_maps.specs.Nodes.{Fill}
use Rattle.rules_tcc.specs.State.{Phase, Running, AwaitTid, DoomedTid, Probing, Ready, Overflowing, Solo, Halted}
use Rattle.watch.specs.Facts.{Done, Loaded, Stored, Changed}
use Rattle.watch.specs.Facts.{Fact, Did, Missed, Overflowed, Evicted, Took, Violated, GaveUp, Committed, CameTo}
use Rattle.watch_count.specs.declared.tables.PhaseName.{PhaseName}
use Rattle.watch_count.specs.declared.tables.PhaseName.TheVariants as name
use Rattle.watch_count.specs.declared.tables.Attempts.{Attempts}
use Rattle.watch_count.specs.declared.tables.Instructions.{Instructions}
use Rattle.watch_count.specs.declared.tables.Accesses.{Accesses}
use Rattle.watch_count.specs.declared.tables.Evictions.{Evictions}
use Rattle.watch_count.specs.declared.tables.Phases.{Phases}
use Rattle.watch_count.specs.declared.tables.CoreCounts.{CoreCounts}

-- a phase without its TID
abbrev pub name_of : Phase → PhaseName
name_of Running = name.Running
name_of AwaitTid = name.AwaitTid
name_of DoomedTid = name.DoomedTid
name_of (Probing t) = name.Probing
name_of (Ready t) = name.Ready
name_of (Overflowing t) = name.Overflowing
name_of (Solo t) = name.Solo
name_of Halted = name.Halted

abbrev pub nothing : CoreCounts
nothing = record {
  attempts = record { begun = 0; committed = 0; violated = 0; still_open = 0; unbroken = 0; row = 0; gave_up = 0 };
  instructions = record { executed = 0; committed = 0; lost = 0; still_open = 0 };
  accesses = record { loads = 0; stores = 0; changes = 0; misses = 0; fills = 0; overflows = 0 };
  evictions = record { clean = 0; dirty = 0; modified = 0 };
  phases = record { running = 0; await_tid = 0; doomed_tid = 0; probing = 0; ready = 0; overflowing = 0; solo = 0; halted = 0 };
  phase = name.Running;
}

-- An attempt begins with the first instruction that is finished, and ends with its commit or a violation. `row` is the longest row of
-- violations without a commit between them.
unfoldable pub attempts_after : Fact → Attempts → Attempts
attempts_after (Did c pc d) a = record a { begun = (if a.still_open == 0 then a.begun + 1 else a.begun); still_open = 1 }
attempts_after (Committed t c n) a = record a { committed = a.committed + 1; still_open = 0; unbroken = 0 }
attempts_after (Violated c by t l words lost p) a =
    record a { violated = a.violated + 1; still_open = 0; unbroken = a.unbroken + 1; row = max a.row (a.unbroken + 1) }
attempts_after (GaveUp t c) a = record a { gave_up = a.gave_up + 1 }
attempts_after _ a = a

-- each instruction that is finished is committed or lost later, or open
unfoldable pub instructions_after : Fact → Instructions → Instructions
instructions_after (Did c pc d) i = record i { executed = i.executed + 1; still_open = i.still_open + 1 }
instructions_after (Committed t c n) i = record i { committed = i.committed + n; still_open = 0 }
instructions_after (Violated c by t l words lost p) i = record i { lost = i.lost + lost; still_open = 0 }
instructions_after _ i = i

unfoldable pub done_counted : Done → Accesses → Accesses
done_counted (Loaded addr size value) a = record a { loads = a.loads + 1 }
done_counted (Stored addr size value) a = record a { stores = a.stores + 1 }
done_counted (Changed addr size old new) a = record a { changes = a.changes + 1 }
done_counted _ a = a

-- an instruction that misses, or overflows, isn't finished, and counts again where it is; `fills` are those that the core took
unfoldable pub accesses_after : Fact → Accesses → Accesses
accesses_after (Did c pc d) a = done_counted d a
accesses_after (Missed c pc addr l) a = record a { misses = a.misses + 1 }
accesses_after (Overflowed c pc addr l) a = record a { overflows = a.overflows + 1 }
accesses_after (Took (Fill l ws)) a = record a { fills = a.fills + 1 }
accesses_after _ a = a

-- a line with dirty words and modified words counts in both
unfoldable pub evictions_after : Fact → Evictions → Evictions
evictions_after (Evicted c l dirty modified) e = record e {
  clean = (if dirty == 0 && modified == 0 then e.clean + 1 else e.clean);
  dirty = (if dirty == 0 then e.dirty else e.dirty + 1);
  modified = (if modified == 0 then e.modified else e.modified + 1);
}
evictions_after _ e = e

-- one more event came in this phase
unfoldable pub phase_counted : PhaseName → Phases → Phases
phase_counted name.Running p = record p { running = p.running + 1 }
phase_counted name.AwaitTid p = record p { await_tid = p.await_tid + 1 }
phase_counted name.DoomedTid p = record p { doomed_tid = p.doomed_tid + 1 }
phase_counted name.Probing p = record p { probing = p.probing + 1 }
phase_counted name.Ready p = record p { ready = p.ready + 1 }
phase_counted name.Overflowing p = record p { overflowing = p.overflowing + 1 }
phase_counted name.Solo p = record p { solo = p.solo + 1 }
phase_counted name.Halted p = record p { halted = p.halted + 1 }

-- the phase that the core is in
abbrev pub phase_after : Fact → PhaseName → PhaseName
phase_after (CameTo c p) q = name_of p
phase_after _ q = q

-- a fact of this core
unfoldable pub core_after : Fact → CoreCounts → CoreCounts
core_after f c = record {
  attempts = attempts_after f c.attempts;
  instructions = instructions_after f c.instructions;
  accesses = accesses_after f c.accesses;
  evictions = evictions_after f c.evictions;
  phases = c.phases;
  phase = phase_after f c.phase;
}

-- an event of the machine comes, of whichever node: it counts in the phase that the core is in before it
unfoldable pub event_came : CoreCounts → CoreCounts
event_came c = record c { phases = phase_counted c.phase c.phases }
