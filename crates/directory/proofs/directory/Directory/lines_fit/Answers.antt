use Rattle.std.proofs.Common.{◌↔◌, subst}
use Rattle.std.specs.Prelude.{IsTrue}
use Rattle.dir_lines.specs.Kept.{kept}
use Rattle.dir_lines.specs.Restored.{LineFits}
use Rattle.directory.specs.Data.{dir_of}
use Rattle.directory.proofs.directory.Directory.lines_fit.Goals as goal

pub returns : goal.returns
unfolding dir_of
returns c = λ e.
    subst (λ d. IsTrue c.lines_fit.result ↔ ((l : _) → LineFits d.lines.place.shape.cores (kept d.lines) l)) c.self.view_is
    c.lines_fit.ensures
