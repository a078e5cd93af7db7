-- What a directory may know.
use Rattle.std.specs.Prelude.{ℕ, ◌≡◌, ◌<◌, ◌≤◌, true}
use Rattle.rules_maps.specs.Lines.{Lines}
use Rattle.rules_maps.specs.Shape.{Shape}
use Rattle.rules_tcc.specs.State.{DirState}
use Rattle.theorem_sound.specs.Sound.{LinesHome}

-- the sharers of each line are cores that the machine has
abbrev pub SharersExist : Shape → Lines → Type 0
SharersExist sh ls = (l c : ℕ) → ls.sharers l c ≡ true → c < sh.cores

pub record IsGoodDirectory (sh : Shape) (dir : ℕ) (s : DirState) : Type 0 where
  pub lines : LinesHome sh dir s.lines
  pub sharers : SharersExist sh s.lines
  pub serves : 1 ≤ s.serving.serving
