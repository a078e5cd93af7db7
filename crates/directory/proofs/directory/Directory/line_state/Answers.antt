use Rattle.std.proofs.Common.{ap, ◌∙◌}
use Rattle.dir_lines.specs.Kept.{kept}
use Rattle.directory.specs.Data.{dir_of}
use Rattle.directory.proofs.directory.Directory.line_state.Goals as goal

pub returns-clause-mark : goal.returns-clause-mark
unfolding dir_of
returns-clause-mark c = λ e. c.get-record.ensures.mark ∙ ap (λ d. (kept d.lines).mark c.args.line.0) c.self.view_is

pub returns-clause-owner : goal.returns-clause-owner
unfolding dir_of
returns-clause-owner c = λ e. c.get-record.ensures.owner ∙ ap (λ d. (kept d.lines).owner c.args.line.0) c.self.view_is

pub returns-clause-asked : goal.returns-clause-asked
unfolding dir_of
returns-clause-asked c = λ e. c.get-record.ensures.asked ∙ ap (λ d. (kept d.lines).asked c.args.line.0) c.self.view_is

pub returns-clause-tag : goal.returns-clause-tag
unfolding dir_of
returns-clause-tag c = λ e. c.get-record.ensures.tag ∙ ap (λ d. (kept d.lines).tag c.args.line.0) c.self.view_is
