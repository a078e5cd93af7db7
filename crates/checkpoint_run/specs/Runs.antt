-- The text of a run that is counted: two rows of its own, the rows of its counts, and the text of its machine.
use Rattle.std.specs.Prelude.{ℕ, List, [], ◌∷◌, ◌++◌, codes}
use Rattle.row_text.specs.Rows.{Row, rows_text}
use Rattle.count_rows.specs.Rows.{counts_text}
use Rattle.checkpoint_text.specs.Laws.{machine_text}
use Rattle.watch_run.specs.Runs.{RunData}

-- the version of such texts
abbrev pub version_row : Row
version_row = record { word = codes "tcc-run"; numbers = 1 ∷ [] }

-- the seed, and how many words were drawn of its generator
abbrev pub generator_row : (seed drawn : ℕ) → Row
generator_row seed drawn = record { word = codes "generator"; numbers = seed ∷ drawn ∷ [] }

unfoldable pub head_rows : RunData → List Row
head_rows r = version_row ∷ generator_row r.seed r.drawn ∷ []

-- the text of a run
unfoldable pub run_text : RunData → List ℕ
run_text r = rows_text (head_rows r) ++ (counts_text r.counts ++ machine_text r.machine)
