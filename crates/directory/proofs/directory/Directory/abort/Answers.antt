use Rattle.std.proofs.Common.{◌≡◌, ap, sym, ◌∙◌, arith}
use borrow.Author.Tests.{lt-ltb, le-ltb, eq-eqb, ne_eqb}
use Rattle.directory.specs.Data.{dir_of}
use Rattle.directory.proofs.RuleCases.{abort-lower}
use Rattle.directory.proofs.Giving.{gives-from, drops, abort-keeps, abort-moves}
use Rattle.directory.proofs.directory.Directory.abort.Goals as goal

pub returns-then-tid-serving-clause-gives : goal.returns-then-tid-serving-clause-gives
unfolding dir_of
returns-then-tid-serving-clause-gives c =
    let serving : c.serving-serving.result.0 ≡ c.args.self.now.serving.serving = c.serving-serving.ensures
    ∙ ap (λ d. d.serving.serving) c.self.view_is in
    drops (λ e. abort-lower c.args.tid.0 (dir_of e c.args.self.now) (lt-ltb c.args.tid.0 c.args.self.now.serving.serving (omega arith)))

pub returns-then-serving-tid-clause-gives : goal.returns-then-serving-tid-clause-gives
returns-then-serving-tid-clause-gives c =
    let serving : c.serving-serving.result.0 ≡ c.self.inside.skips.serving = c.serving-serving.ensures in
    gives-from c.self.view_is
    (abort-keeps c.self.inside.lines c.self.inside.words c.self.inside.skips c.self.inside.owed c.skip.new.self
    c.args.out.now.list.items c.args.tid.0
    c.in_ok-skip.ensures.kept (le-ltb c.args.tid.0 c.self.inside.skips.serving (omega arith))
    (ne_eqb c.self.inside.skips.serving c.args.tid.0 (λ same. omega arith)))

pub returns-clause-gives : goal.returns-clause-gives
returns-clause-gives c =
    let serving : c.serving-serving.result.0 ≡ c.self.inside.skips.serving = c.serving-serving.ensures in
    gives-from c.self.view_is
    (abort-moves c.self.inside.lines c.self.inside.words c.self.inside.skips c.self.inside.owed c.clear_marks.new.self c.skip-2.new.self
    c.args.out.now.list.items c.args.tid.0
    c.clear_marks.ensures.map c.in_ok-skip-2.ensures.kept (le-ltb c.args.tid.0 c.self.inside.skips.serving (omega arith))
    (eq-eqb c.self.inside.skips.serving c.args.tid.0 (omega arith)))
