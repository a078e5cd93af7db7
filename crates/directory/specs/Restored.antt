-- The state of a directory with what a checkpoint says of one line, or of the TID that is served.
use Rattle.std.specs.Prelude.{ℕ, List}
use Rattle.rules_maps.specs.Masks.{full}
use Rattle.rules_maps.specs.Serving.{Serving}
use Rattle.rules_tcc.specs.State.{DirState}
use Rattle.dir_lines.specs.Record.{Record}
use Rattle.dir_lines.specs.Restored.{with_record}
use Rattle.dir_lines.specs.Words.{with_words}

-- all that is known of the line, and its words; other lines and words, the served TID and what is owed are as before
unfoldable pub restored_line : ℕ → Record → List ℕ → DirState → DirState
restored_line l r ws s = record s { words = with_words l full ws s.words; lines = with_record l r s.lines }

-- the TID that is served, with the skips and what is owed; lines and words are as before
unfoldable pub restored_serving : Serving → (owed : ℕ) → DirState → DirState
restored_serving sv owed s = record s { serving = sv; owed = owed }
