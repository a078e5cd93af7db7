-- A directory's plain data, and the state of the rules that it stands for.
use Rattle.std.specs.Prelude.{ℕ}
use Rattle.rules_maps.specs.Serving.{Serving}
use Rattle.rules_tcc.specs.State.{DirState}
use Rattle.dir_lines.specs.Pages.{Pages}
use Rattle.dir_lines.specs.Words.{Words, words_at}
use Rattle.dir_lines.specs.Kept.{kept}

pub record DirData : Type 0 where
  pub lines : Pages
  pub words : Words
  pub serving : Serving
  pub owed : ℕ

-- the rules' state; for the words of other homes what stands elsewhere
unfoldable pub dir_of : (elsewhere : ℕ → ℕ) → DirData → DirState
dir_of elsewhere d = record { words = words_at elsewhere d.words; serving = d.serving; lines = kept d.lines; owed = d.owed }
