-- The records of the memory's lines so far are there.
use Rattle.std.proofs.Common.{◌≡◌, ◌++◌, ℕ, map}
use Rattle.std.specs.List.{flat_map}
use Rattle.rules_tcc.specs.Seen.{numbers}
use Rattle.directory.specs.Data.{dir_of}
use Rattle.watch_state.specs.Directories.{at_home, line_record}
use Rattle.watch_state.specs.Plain.{record_of}
use Rattle.watch_state.proofs.directories.add_lines.Given as goal

abbrev pub invariant-loop-line : goal.invariant-loop-line
invariant-loop-line l =
    (elsewhere : ℕ → ℕ) → map record_of l.records
    ≡ map record_of l.fn.records
    ++ flat_map (at_home l.config l.id.0 (line_record l.config (dir_of elsewhere l.dir).lines)) (numbers l.line)
