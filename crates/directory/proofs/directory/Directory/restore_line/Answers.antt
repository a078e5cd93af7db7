-- The line's record, and its words.
use Rattle.std.proofs.Common.{ap, ◌∙◌}
use Rattle.directory.specs.Data.{dir_of}
use Rattle.directory.specs.Restored.{restored_line}
use Rattle.directory.proofs.directory.Directory.restore_line.Goals as goal

pub returns-clause-restored : goal.returns-clause-restored
unfolding dir_of restored_line
returns-clause-restored c = λ e.
    (λ i. record {
      words = c.write.ensures.words e i;
      serving = c.self.inside.skips;
      lines = c.restore.ensures.map i;
      owed = c.self.inside.owed;
    })
    ∙ ap (λ d. restored_line c.args.line.0 c.args.to c.args.words.now (dir_of e d)) c.self.view_is
