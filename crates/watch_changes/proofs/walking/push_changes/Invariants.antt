-- What is written and what is still to be told are what was there and all that is told.
use Rattle.std.proofs.Common.{◌≡◌, ◌++◌, ◌+◌, ◌-◌, ◌≤◌, length, map, string_bytes}
use Rattle.watch_state.specs.Plain.{record_of}
use Rattle.watch_changes.specs.Changes.{change_lines, changes}
use Rattle.watch_changes.proofs.Told.{from}
use Rattle.watch_changes.proofs.walking.push_changes.Given as goal

abbrev pub invariant-loop-was : goal.invariant-loop-was
invariant-loop-was l =
    (l.was ≤ length l.before) × (l.is ≤ length l.after)
    × (string_bytes l.text ++ change_lines (changes (from l.before l.was) (from l.after l.is))
    ≡ string_bytes l.fn.text ++ change_lines (changes (map record_of l.before) (map record_of l.after)))

abbrev pub decreases-loop-was : goal.decreases-loop-was
decreases-loop-was l = (length l.before - l.was) + (length l.after - l.is)
