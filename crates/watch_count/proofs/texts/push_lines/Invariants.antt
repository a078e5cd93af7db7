-- What is written, with the lines that are left, is the text of all.
use Rattle.std.proofs.Common.{◌≡◌, ◌++◌, string_bytes}
use Rattle.std.specs.List.{flat_map}
use Rattle.watch_count.specs.Text.{entry_line}
use Rattle.watch_count.proofs.texts.push_lines.Given as goal

abbrev pub invariant-loop-line : goal.invariant-loop-line
invariant-loop-line l =
    string_bytes l.text ++ flat_map entry_line l.line-iterator ≡ string_bytes l.fn.text ++ flat_map entry_line l.lines.entries
