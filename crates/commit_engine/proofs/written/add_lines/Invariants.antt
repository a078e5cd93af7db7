use Rattle.std.proofs.Common.{◌≡◌, ◌++◌, map, take}
use Rattle.commit_engine.specs.Solo.{line_in}
use Rattle.commit_engine.proofs.written.add_lines.Given as goal

abbrev pub invariant-loop-line : goal.invariant-loop-line
invariant-loop-line l = record { added : l.lines.items ≡ l.fn.lines.items ++ map line_in (take l.line-index l.marks) }
