-- The lines of the changes so far are written.
use Rattle.std.proofs.Common.{◌≡◌, ◌++◌, string_bytes, take}
use Rattle.std.specs.List.{flat_map}
use Rattle.text_outcomes.specs.Changes.{change_line}
use Rattle.text_outcomes.proofs.told.push_changes.Given as goal

abbrev pub invariant-loop-w : goal.invariant-loop-w
invariant-loop-w l =
    string_bytes l.text ≡ string_bytes l.fn.text ++ flat_map (change_line l.config.base) (take l.w-index l.changes)
