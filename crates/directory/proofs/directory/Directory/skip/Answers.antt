use Rattle.std.proofs.Common.{◌≡◌, ap, ◌∙◌, arith}
use borrow.Author.Tests.{lt-ltb, le-ltb}
use Rattle.directory.specs.Data.{dir_of}
use Rattle.directory.proofs.RuleCases.{skip-lower}
use Rattle.directory.proofs.Giving.{gives-from, drops, skip-takes}
use Rattle.directory.proofs.directory.Directory.skip.Goals as goal

pub returns-then-tid-serving-clause-gives : goal.returns-then-tid-serving-clause-gives
unfolding dir_of
returns-then-tid-serving-clause-gives c =
    let serving : c.serving.result.0 ≡ c.args.self.now.serving.serving = c.serving.ensures ∙ ap (λ d. d.serving.serving) c.self.view_is in
    drops (λ e. skip-lower c.args.tid.0 (dir_of e c.args.self.now) (lt-ltb c.args.tid.0 c.args.self.now.serving.serving (omega arith)))

pub returns-clause-gives : goal.returns-clause-gives
returns-clause-gives c =
    gives-from c.self.view_is
    (skip-takes c.self.inside.lines c.self.inside.words c.self.inside.skips c.self.inside.owed c.skip.new.self c.args.out.now.list.items
    c.args.tid.0
    c.in_ok-skip.ensures.kept (le-ltb c.args.tid.0 c.self.inside.skips.serving (omega (arith, c.serving.ensures))))
