-- The lines of the text, each ended by a line feed. All numbers are decimal.
use Rattle.std.specs.Prelude.{ℕ, List, ◌++◌, Option, Some, None, codes, ◌==◌, if◌then◌else◌}
use Rattle.std.specs.Fmt.{decimal}
use Rattle.schedule_text.specs.Grammar.{newline}
use Rattle.watch_count.specs.declared.tables.CoreCounts.{CoreCounts}
use Rattle.watch_count.specs.declared.messages.MessageCounts.{MessageCounts}
use Rattle.watch_count.specs.declared.places.LineCounts.{LineCounts}
use Rattle.watch_count.specs.declared.places.Conflict.{Conflict}
use Rattle.watch_count.specs.declared.places.ConflictCounts.{ConflictCounts}
use Rattle.watch_count.specs.declared.rows.Table.{Table}
use Rattle.watch_count.specs.declared.rows.Table.TheVariants.{Attempts, Instructions, Accesses, Evictions, Phases}
use Rattle.watch_count.specs.Totals.{in_flight}

-- a core, or all of them
abbrev pub who_word : Option ℕ → List ℕ
who_word None = codes "all"
who_word (Some c) = decimal c

-- a name, and its number
unfoldable pub named : (name : List ℕ) → ℕ → List ℕ
named name n = name ++ decimal n

-- the row of a table for a core, or for all
unfoldable pub row : Table → Option ℕ → CoreCounts → List ℕ
row Attempts who c =
    codes "attempts " ++ who_word who
    ++ named (codes " begun ") c.attempts.begun
    ++ named (codes " committed ") c.attempts.committed
    ++ named (codes " violated ") c.attempts.violated
    ++ named (codes " open ") c.attempts.still_open
    ++ named (codes " row ") c.attempts.row
    ++ named (codes " gaveup ") c.attempts.gave_up ++ newline
row Instructions who c =
    codes "instructions " ++ who_word who
    ++ named (codes " executed ") c.instructions.executed
    ++ named (codes " committed ") c.instructions.committed
    ++ named (codes " lost ") c.instructions.lost
    ++ named (codes " open ") c.instructions.still_open ++ newline
row Accesses who c =
    codes "accesses " ++ who_word who
    ++ named (codes " loads ") c.accesses.loads
    ++ named (codes " stores ") c.accesses.stores
    ++ named (codes " changes ") c.accesses.changes
    ++ named (codes " misses ") c.accesses.misses
    ++ named (codes " fills ") c.accesses.fills
    ++ named (codes " overflows ") c.accesses.overflows ++ newline
row Evictions who c =
    codes "evictions " ++ who_word who
    ++ named (codes " clean ") c.evictions.clean
    ++ named (codes " dirty ") c.evictions.dirty
    ++ named (codes " modified ") c.evictions.modified ++ newline
row Phases who c =
    codes "phases " ++ who_word who
    ++ named (codes " Running ") c.phases.running
    ++ named (codes " AwaitTid ") c.phases.await_tid
    ++ named (codes " DoomedTid ") c.phases.doomed_tid
    ++ named (codes " Probing ") c.phases.probing
    ++ named (codes " Ready ") c.phases.ready
    ++ named (codes " Overflowing ") c.phases.overflowing
    ++ named (codes " Solo ") c.phases.solo
    ++ named (codes " Halted ") c.phases.halted ++ newline

-- the name of the kind of message at this place; behind the last of them, all
abbrev pub kind_word : (place : ℕ) → List ℕ
kind_word k =
    if k == 0 then codes "TidReq"
    else if k == 1 then codes "TidGrant"
    else if k == 2 then codes "LoadReq"
    else if k == 3 then codes "Fill"
    else if k == 4 then codes "Skip"
    else if k == 5 then codes "Probe"
    else if k == 6 then codes "ProbeReply"
    else if k == 7 then codes "Mark"
    else if k == 8 then codes "Commit"
    else if k == 9 then codes "Abort"
    else if k == 10 then codes "WriteBack"
    else if k == 11 then codes "Flush"
    else if k == 12 then codes "DataReq"
    else if k == 13 then codes "Inv"
    else if k == 14 then codes "InvAck"
    else codes "all"

unfoldable pub messages_line : (place : ℕ) → MessageCounts → List ℕ
messages_line place m =
    codes "messages " ++ kind_word place
    ++ named (codes " sent ") m.sent
    ++ named (codes " took ") m.took
    ++ named (codes " dropped ") m.dropped
    ++ named (codes " asked ") m.asked
    ++ named (codes " flight ") (in_flight m) ++ newline

unfoldable pub line_line : (line : ℕ) → LineCounts → List ℕ
line_line l n =
    named (codes "line ") l
    ++ named (codes " misses ") n.misses
    ++ named (codes " invalidations ") n.invalidations
    ++ named (codes " violations ") n.violations
    ++ named (codes " lost ") n.lost ++ newline

unfoldable pub conflict_line : Conflict → ConflictCounts → List ℕ
conflict_line c n =
    named (codes "conflict ") c.by ++ named (codes " ") c.victim ++ named (codes " ") c.line
    ++ named (codes " ") n.violations ++ named (codes " ") n.lost ++ newline
