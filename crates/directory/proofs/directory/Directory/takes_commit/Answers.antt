use Rattle.std.proofs.Common.{◌≡◌, ◌==◌, None, if◌then◌else◌, not, option_map, ap, sym, ◌∙◌, arith}
use borrow.Author.Tests.{lt-ltb, le-ltb, eq-eqb, ne_eqb}
use Rattle.rules_maps.specs.Words.{count_below}
use Rattle.rules_maps.specs.Masks.{full}
use Rattle.rules_maps.specs.Shape.{lines}
use Rattle.rules_maps.specs.Lines.{has_mark}
use Rattle.rules_maps.specs.Judge.{judge}
use Rattle.rules_tcc.specs.DirDeliver.{load_unless_owned, mark_unless_owned}
use Rattle.dir_lines.specs.Kept.{kept}
use Rattle.directory.specs.Data.{dir_of}
use Rattle.directory.specs.Gives.{is_taken}
use Rattle.directory.proofs.RuleCases.{commit-early, commit-unmarked, commit-marked}
use Rattle.directory.proofs.Taking.{ask-taken}
use Rattle.directory.proofs.directory.Directory.takes_commit.Goals as goal

pub returns-then-serving-tid : goal.returns-then-serving-tid
unfolding dir_of
returns-then-serving-tid c = λ e k.
    let serving : c.serving.result.0 ≡ c.args.self.now.serving.serving = c.serving.ensures ∙ ap (λ d. d.serving.serving) c.self.view_is in
    sym (ap is_taken (commit-early c.args.self.now.lines.place.shape k c.args.tid.0 c.args.count (dir_of e c.args.self.now)
    (ne_eqb c.args.self.now.serving.serving c.args.tid.0 (λ same. c.if-serving-tid.true (serving ∙ same)))))

pub returns-then-marked_lines-count : goal.returns-then-marked_lines-count
unfolding dir_of
returns-then-marked_lines-count c = λ e k.
    let count : c.marked_lines.result ≡ count_below (has_mark (kept c.args.self.now.lines)) (lines c.args.self.now.lines.place.shape) =
    c.marked_lines.ensures.count ∙ ap (λ d. count_below (has_mark (kept d.lines)) (lines d.lines.place.shape)) c.self.view_is in
    sym (ap is_taken (commit-unmarked c.args.self.now.lines.place.shape k c.args.tid.0 c.args.count (dir_of e c.args.self.now)
    (ne_eqb (count_below (has_mark (kept c.args.self.now.lines)) (lines c.args.self.now.lines.place.shape)) c.args.count
    (λ same. c.if-marked_lines-count.true (count ∙ same)))))

pub returns : goal.returns
unfolding dir_of
returns c = λ e k.
    let serving : c.serving.result.0 ≡ c.args.self.now.serving.serving = c.serving.ensures ∙ ap (λ d. d.serving.serving) c.self.view_is in
    let count : c.marked_lines.result ≡ count_below (has_mark (kept c.args.self.now.lines)) (lines c.args.self.now.lines.place.shape) =
    c.marked_lines.ensures.count ∙ ap (λ d. count_below (has_mark (kept d.lines)) (lines d.lines.place.shape)) c.self.view_is in
    sym (ap is_taken (commit-marked c.args.self.now.lines.place.shape k c.args.tid.0 c.args.count (dir_of e c.args.self.now)
    (eq-eqb c.args.self.now.serving.serving c.args.tid.0 (sym serving ∙ c.if-serving-tid.false))
    (eq-eqb (count_below (has_mark (kept c.args.self.now.lines)) (lines c.args.self.now.lines.place.shape)) c.args.count
    (sym count ∙ c.if-marked_lines-count.false))))
