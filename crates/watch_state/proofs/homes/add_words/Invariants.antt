-- The records of the words so far are there.
use Rattle.std.proofs.Common.{◌≡◌, ◌++◌, ℕ, map}
use Rattle.std.specs.List.{flat_map}
use Rattle.image_load.specs.Contents.{started}
use Rattle.image_load.specs.Start.{first_ram}
use Rattle.rules_maps.specs.Words.{word_at}
use Rattle.rules_tcc.specs.Seen.{numbers}
use Rattle.directory.specs.Data.{dir_of}
use Rattle.watch_state.specs.Directories.{word_record}
use Rattle.watch_state.specs.Plain.{record_of}
use Rattle.watch_state.proofs.homes.add_words.Given as goal

abbrev pub invariant-loop-k : goal.invariant-loop-k
invariant-loop-k l =
    (elsewhere : ℕ → ℕ) → map record_of l.records
    ≡ map record_of l.fn.records
    ++ flat_map
    (λ k. word_record l.code.settings (first_ram (started l.code)) (dir_of elsewhere l.dir).words (word_at l.line.0 k)) (numbers l.k)
