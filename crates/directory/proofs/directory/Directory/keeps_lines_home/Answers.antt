use Rattle.std.proofs.Common.{subst}
use Rattle.dir_lines.specs.Home.{IsAtHome}
use Rattle.dir_lines.specs.Kept.{kept}
use Rattle.dir_lines.specs.Restored.{IsUnknown}
use Rattle.directory.specs.Data.{dir_of}
use Rattle.directory.proofs.directory.Directory.keeps_lines_home.Goals as goal

pub returns : goal.returns
unfolding dir_of
returns c = λ e.
    subst (λ d. (l : _) → (IsAtHome d.lines.place l → ⊥) → IsUnknown (kept d.lines) l) c.self.view_is c.keeps_home.ensures
