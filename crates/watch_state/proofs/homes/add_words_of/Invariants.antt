-- The records of the lines so far are there, and those of the lines to come are missing.
use Rattle.std.proofs.Common.{◌≡◌, ◌++◌, ℕ, drop, map}
use Rattle.std.specs.List.{flat_map}
use Rattle.image_load.specs.Contents.{started}
use Rattle.image_load.specs.Start.{first_ram}
use Rattle.directory.specs.Data.{dir_of}
use Rattle.watch_state.specs.Directories.{at_home, word_records}
use Rattle.watch_state.specs.Plain.{record_of}
use Rattle.watch_state.proofs.homes.add_words_of.Given as goal

abbrev pub invariant-loop-line : goal.invariant-loop-line
invariant-loop-line l =
    (elsewhere : ℕ → ℕ) → map record_of l.records
    ++ flat_map (at_home l.code.settings l.id.0 (word_records l.code.settings (first_ram (started l.code)) (dir_of elsewhere l.dir).words))
    (map (λ j. j.0) (drop l.line-index l.some))
    ≡ map record_of l.fn.records
    ++ flat_map (at_home l.code.settings l.id.0 (word_records l.code.settings (first_ram (started l.code)) (dir_of elsewhere l.dir).words))
    (map (λ j. j.0) l.some)
