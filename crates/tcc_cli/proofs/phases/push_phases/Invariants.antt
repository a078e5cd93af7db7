-- What is written, with the lines of the commits that are left, is the text of all.
use Rattle.std.proofs.Common.{◌≡◌, ◌++◌, string_bytes, drop}
use Rattle.tcc_cli.specs.Phased.{phase_lines}
use Rattle.tcc_cli.proofs.phases.push_phases.Given as goal

abbrev pub invariant-loop-i : goal.invariant-loop-i
invariant-loop-i l =
    string_bytes l.text ++ phase_lines (drop l.i l.commits) (drop l.i l.phases) ≡ string_bytes l.fn.text ++ phase_lines l.commits l.phases
