use Rattle.std.proofs.Common.{◌≡◌, ap, sym, subst, ◌∙◌, arith}
use borrow.Author.Tests.{eq-eqb, ne_eqb}
use Rattle.rules_maps.specs.Words.{count_below}
use Rattle.rules_maps.specs.Shape.{lines}
use Rattle.rules_maps.specs.Lines.{has_mark}
use Rattle.rules_tcc.specs.DirDeliver.{dir_commit}
use Rattle.dir_lines.specs.Kept.{kept}
use Rattle.directory.specs.declared.handled.Handled.TheVariants.{Handled as Done}
use Rattle.directory.specs.Data.{dir_of}
use Rattle.directory.specs.Gives.{Gives}
use Rattle.directory.proofs.RuleCases.{commit-early, commit-unmarked}
use Rattle.directory.proofs.Giving.{waits}
use Rattle.directory.proofs.Committing.{commit-takes}
use Rattle.directory.proofs.directory.Directory.commit.Goals as goal

pub returns-then-serving-tid-clause-gives : goal.returns-then-serving-tid-clause-gives
unfolding dir_of
returns-then-serving-tid-clause-gives c =
    let serving : c.serving.result.0 ≡ c.args.self.now.serving.serving = c.serving.ensures ∙ ap (λ d. d.serving.serving) c.self.view_is in
    waits (λ e. commit-early c.args.self.now.lines.place.shape c.args.src.0 c.args.tid.0 c.args.count (dir_of e c.args.self.now)
    (ne_eqb c.args.self.now.serving.serving c.args.tid.0 (λ same. c.if-serving-tid.true (serving ∙ same))))

pub returns-then-marked_lines-count-clause-gives : goal.returns-then-marked_lines-count-clause-gives
unfolding dir_of
returns-then-marked_lines-count-clause-gives c =
    let count : c.marked_lines.result ≡ count_below (has_mark (kept c.args.self.now.lines)) (lines c.args.self.now.lines.place.shape) =
    c.marked_lines.ensures.count ∙ ap (λ d. count_below (has_mark (kept d.lines)) (lines d.lines.place.shape)) c.self.view_is in
    waits (λ e. commit-unmarked c.args.self.now.lines.place.shape c.args.src.0 c.args.tid.0 c.args.count (dir_of e c.args.self.now)
    (ne_eqb (count_below (has_mark (kept c.args.self.now.lines)) (lines c.args.self.now.lines.place.shape)) c.args.count
    (λ same. c.if-marked_lines-count.true (count ∙ same))))

pub returns-clause-gives : goal.returns-clause-gives
returns-clause-gives c =
    subst (λ d. Gives d c.settle.new.self c.args.out.now.list.items c.invalidate.new.out.list.items Done
    (dir_commit d.lines.place.shape c.args.src.0 c.args.tid.0 c.args.count)) c.self.view_is
    (commit-takes c.self.inside.lines.place.shape c.self.inside.lines c.self.inside.words c.self.inside.skips c.self.inside.owed
    c.own_marked.new.lines c.in_ok-owed.owed c.settle.new.self
    c.args.out.now.list.items c.invalidate.new.out.list.items c.args.src.0 c.args.tid.0 c.args.count c.own_marked.ensures.map
    c.in_ok-owed.ensures.count c.in_ok-owed.ensures.sent
    c.settle.ensures.settled (eq-eqb c.self.inside.skips.serving c.args.tid.0 (sym c.serving.ensures ∙ c.if-serving-tid.false))
    (eq-eqb (count_below (has_mark (kept c.self.inside.lines)) (lines c.self.inside.lines.place.shape)) c.args.count
    (sym c.marked_lines.ensures.count ∙ c.if-marked_lines-count.false)))
