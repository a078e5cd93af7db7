-- What is written, with the conflicts that are left, is the text of all.
use Rattle.std.proofs.Common.{◌≡◌, ◌++◌, string_bytes}
use Rattle.std.specs.List.{flat_map}
use Rattle.watch_count.specs.Text.{entry_conflict}
use Rattle.watch_count.proofs.texts.push_conflicts.Given as goal

abbrev pub invariant-loop-conflict : goal.invariant-loop-conflict
invariant-loop-conflict l =
    string_bytes l.text ++ flat_map entry_conflict l.conflict-iterator
    ≡ string_bytes l.fn.text ++ flat_map entry_conflict l.conflicts.entries
