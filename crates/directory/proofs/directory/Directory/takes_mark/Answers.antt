use Rattle.std.proofs.Common.{◌≡◌, ◌==◌, None, if◌then◌else◌, not, option_map, ap, sym, ◌∙◌, arith}
use borrow.Author.Tests.{lt-ltb, le-ltb, eq-eqb, ne_eqb}
use Rattle.rules_maps.specs.Words.{count_below}
use Rattle.rules_maps.specs.Masks.{full}
use Rattle.rules_maps.specs.Shape.{lines}
use Rattle.rules_maps.specs.Lines.{has_mark}
use Rattle.rules_maps.specs.Judge.{judge}
use Rattle.rules_tcc.specs.DirDeliver.{load_unless_owned, mark_unless_owned}
use Rattle.dir_lines.specs.Kept.{kept}
use Rattle.directory.specs.Data.{dir_of}
use Rattle.directory.specs.Gives.{is_taken}
use Rattle.directory.proofs.RuleCases.{mark-lower, mark-early, mark-served}
use Rattle.directory.proofs.Taking.{ask-taken}
use Rattle.directory.proofs.directory.Directory.takes_mark.Goals as goal

pub returns-then-tid-serving : goal.returns-then-tid-serving
unfolding dir_of
returns-then-tid-serving c = λ e.
    let serving : c.serving-serving.result.0 ≡ c.args.self.now.serving.serving = c.serving-serving.ensures
    ∙ ap (λ d. d.serving.serving) c.self.view_is in
    sym (ap is_taken (mark-lower c.args.line.0 c.args.mask.0 c.args.tid.0 (dir_of e c.args.self.now)
    (lt-ltb c.args.tid.0 c.args.self.now.serving.serving (omega arith))))

pub returns-then-serving-tid : goal.returns-then-serving-tid
unfolding dir_of
returns-then-serving-tid c = λ e.
    let serving : c.serving-serving.result.0 ≡ c.args.self.now.serving.serving = c.serving-serving.ensures
    ∙ ap (λ d. d.serving.serving) c.self.view_is in
    sym (ap is_taken (mark-early c.args.line.0 c.args.mask.0 c.args.tid.0 (dir_of e c.args.self.now)
    (le-ltb c.args.tid.0 c.args.self.now.serving.serving (omega arith))
    (lt-ltb c.args.self.now.serving.serving c.args.tid.0 (omega arith))))

pub returns-in-Some : goal.returns-in-Some
unfolding dir_of
returns-in-Some c = λ e.
    let serving : c.serving-serving.result.0 ≡ c.args.self.now.serving.serving = c.serving-serving.ensures
    ∙ ap (λ d. d.serving.serving) c.self.view_is in
    ap not (c.asked.ensures ∙ ap (λ d. (kept d.lines).asked c.args.line.0) c.self.view_is)
    ∙ (ask-taken c.in-Some.field-0.0 c.args.line.0 (dir_of e c.args.self.now)
    ∙ sym (ap is_taken (mark-served c.args.line.0 c.args.mask.0 c.args.tid.0 (dir_of e c.args.self.now)
    (le-ltb c.args.tid.0 c.args.self.now.serving.serving (omega arith))
    (le-ltb c.args.self.now.serving.serving c.args.tid.0 (omega arith))
    ∙ ap (mark_unless_owned c.args.line.0 c.args.mask.0 (dir_of e c.args.self.now))
    (ap (λ d. if c.args.mask.0 == full then None else (kept d.lines).owner c.args.line.0) (sym c.self.view_is) ∙ sym c.in-Some.ensures))))

pub returns-in-None : goal.returns-in-None
unfolding dir_of
returns-in-None c = λ e.
    let serving : c.serving-serving.result.0 ≡ c.args.self.now.serving.serving = c.serving-serving.ensures
    ∙ ap (λ d. d.serving.serving) c.self.view_is in
    sym (ap is_taken (mark-served c.args.line.0 c.args.mask.0 c.args.tid.0 (dir_of e c.args.self.now)
    (le-ltb c.args.tid.0 c.args.self.now.serving.serving (omega arith))
    (le-ltb c.args.self.now.serving.serving c.args.tid.0 (omega arith))
    ∙ ap (mark_unless_owned c.args.line.0 c.args.mask.0 (dir_of e c.args.self.now))
    (ap (λ d. if c.args.mask.0 == full then None else (kept d.lines).owner c.args.line.0) (sym c.self.view_is) ∙ sym c.in-None.ensures)))
