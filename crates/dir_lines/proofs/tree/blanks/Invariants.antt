use Rattle.dir_lines.specs.Filed.{AllBlank, HasAll}
use Rattle.dir_lines.proofs.tree.blanks.Given as goal

abbrev pub invariant-loop-line : goal.invariant-loop-line
invariant-loop-line l = AllBlank l.records.entries × HasAll l.line l.dirs l.home l.records.entries
