use Rattle.std.proofs.Common.{◌≡◌, ap, sym, ◌∙◌}
use borrow.Author.Tests.{eq-eqb, ne_eqb}
use Rattle.directory.specs.Data.{dir_of}
use Rattle.directory.proofs.RuleCases.{acknowledgement-none}
use Rattle.directory.proofs.Giving.{gives-from, drops, acknowledgement-takes}
use Rattle.directory.proofs.directory.Directory.acknowledge.Goals as goal

pub returns-then-self-eq0-clause-gives : goal.returns-then-self-eq0-clause-gives
unfolding dir_of
returns-then-self-eq0-clause-gives c =
    drops (λ e. acknowledgement-none c.args.src.0 c.args.line.0 c.args.keeps (dir_of e c.args.self.now)
    (eq-eqb c.args.self.now.owed 0 (ap (λ d. d.owed) (sym c.self.view_is) ∙ c.if-self-eq0.true)))

pub returns-clause-gives : goal.returns-clause-gives
returns-clause-gives c =
    gives-from c.self.view_is
    (acknowledgement-takes c.self.inside.lines c.self.inside.words c.self.inside.skips c.self.inside.owed c.leave.new.lines
    c.settle.new.self c.args.out.now.list.items
    c.args.src.0 c.args.line.0 c.args.keeps c.leave.ensures.map c.settle.ensures.settled (ne_eqb c.self.inside.owed 0 c.if-self-eq0.false))
