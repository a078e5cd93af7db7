use Rattle.std.proofs.Common.{◌≡◌, ◌==◌, None, if◌then◌else◌, not, option_map, ap, sym, ◌∙◌, arith}
use borrow.Author.Tests.{lt-ltb, le-ltb, eq-eqb, ne_eqb}
use Rattle.rules_maps.specs.Words.{count_below}
use Rattle.rules_maps.specs.Masks.{full}
use Rattle.rules_maps.specs.Shape.{lines}
use Rattle.rules_maps.specs.Lines.{has_mark}
use Rattle.rules_maps.specs.Judge.{judge}
use Rattle.rules_tcc.specs.DirDeliver.{load_unless_owned, mark_unless_owned}
use Rattle.dir_lines.specs.Kept.{kept}
use Rattle.directory.specs.Data.{dir_of}
use Rattle.directory.specs.Gives.{is_taken}
use Rattle.directory.proofs.RuleCases.{home-early, home-dropped, home-taken}
use Rattle.directory.proofs.Taking.{ask-taken}
use Rattle.directory.proofs.directory.Directory.takes_home.Goals as goal

pub returns-in-Wait : goal.returns-in-Wait
unfolding dir_of
returns-in-Wait c = λ e m ws.
    sym (ap is_taken (home-early c.args.src.0 c.args.line.0 m ws c.args.tag.0 (dir_of e c.args.self.now)
    (ap (λ d. judge ((kept d.lines).owner c.args.line.0) ((kept d.lines).tag c.args.line.0) c.args.src.0 c.args.tag.0) (sym c.self.view_is)
    ∙ ((λ i. judge (sym c.get-record.ensures.owner i) (sym c.get-record.ensures.tag i) c.args.src.0 c.args.tag.0)
    ∙ sym c.in-Wait.ensures.map))))

pub returns-in-Drop : goal.returns-in-Drop
unfolding dir_of
returns-in-Drop c = λ e m ws.
    sym (ap is_taken (home-dropped c.args.src.0 c.args.line.0 m ws c.args.tag.0 (dir_of e c.args.self.now)
    (ap (λ d. judge ((kept d.lines).owner c.args.line.0) ((kept d.lines).tag c.args.line.0) c.args.src.0 c.args.tag.0) (sym c.self.view_is)
    ∙ ((λ i. judge (sym c.get-record.ensures.owner i) (sym c.get-record.ensures.tag i) c.args.src.0 c.args.tag.0)
    ∙ sym c.in-Drop.ensures.map))))

pub returns-in-Take : goal.returns-in-Take
unfolding dir_of
returns-in-Take c = λ e m ws.
    sym (ap is_taken (home-taken c.args.src.0 c.args.line.0 m ws c.args.tag.0 (dir_of e c.args.self.now)
    (ap (λ d. judge ((kept d.lines).owner c.args.line.0) ((kept d.lines).tag c.args.line.0) c.args.src.0 c.args.tag.0) (sym c.self.view_is)
    ∙ ((λ i. judge (sym c.get-record.ensures.owner i) (sym c.get-record.ensures.tag i) c.args.src.0 c.args.tag.0)
    ∙ sym c.in-Take.ensures.map))))
