use Rattle.std.proofs.Common.{◌≡◌, ap, ◌∙◌, arith}
use borrow.Author.Tests.{lt-ltb, le-ltb}
use Rattle.directory.specs.Data.{dir_of}
use Rattle.directory.proofs.RuleCases.{probe-early}
use Rattle.directory.proofs.Giving.{waits, probe-answers}
use Rattle.directory.proofs.directory.Directory.probe.Goals as goal

pub returns-then-serving-tid-clause-gives : goal.returns-then-serving-tid-clause-gives
unfolding dir_of
returns-then-serving-tid-clause-gives c =
    let serving : c.serving-serving.result.0 ≡ c.args.self.now.serving.serving = c.serving-serving.ensures
    ∙ ap (λ d. d.serving.serving) c.self.view_is in
    waits (λ e. probe-early c.args.src.0 c.args.tid.0 (dir_of e c.args.self.now)
    (lt-ltb c.args.self.now.serving.serving c.args.tid.0 (omega arith)))

pub returns-clause-gives : goal.returns-clause-gives
returns-clause-gives c =
    let serving : c.serving-serving.result.0 ≡ c.args.self.now.serving.serving = c.serving-serving.ensures
    ∙ ap (λ d. d.serving.serving) c.self.view_is in
    probe-answers c.args.self.now c.args.out.now.list.items c.push.new.self.list.items c.args.src c.args.tid c.serving-serving.result
    serving
    (le-ltb c.args.self.now.serving.serving c.args.tid.0 (omega arith)) c.in_ok-push.ensures.sent
