-- The rows of the lines so far are written.
use Rattle.std.proofs.Common.{◌≡◌, ◌++◌, codes}
use Rattle.std.specs.List.{flat_map}
use Rattle.rules_tcc.specs.Seen.{numbers}
use Rattle.checkpoint_text.specs.Directories.{line_row}
use Rattle.checkpoint_text.specs.Written.{table_text}
use Rattle.checkpoint_text.proofs.directories.push_line_table.Given as goal

abbrev pub invariant-loop-line : goal.invariant-loop-line
invariant-loop-line l =
    l.text ≡ l.fn.text ++ table_text (codes "line") (flat_map (line_row l.system.cores.code l.system.dirs.dirs) (numbers l.line))
