use Rattle.std.proofs.Common.{◌≡◌, ap, sym, ◌∙◌}
use Rattle.dir_lines.specs.Kept.{kept}
use Rattle.directory.specs.Data.{dir_of}
use Rattle.directory.proofs.RuleCases.{ask-asked}
use Rattle.directory.proofs.Giving.{gives-from, waits, ask-asks}
use Rattle.directory.proofs.directory.Directory.ask.Goals as goal

pub returns-then-asked-clause-gives : goal.returns-then-asked-clause-gives
unfolding dir_of
returns-then-asked-clause-gives c =
    waits (λ e. ask-asked c.args.owner.0 c.args.line.0 (dir_of e c.args.self.now)
    (ap (λ d. (kept d.lines).asked c.args.line.0) (sym c.self.view_is) ∙ (sym c.asked.ensures ∙ c.if-asked.true)))

pub returns-clause-gives : goal.returns-clause-gives
returns-clause-gives c =
    gives-from c.self.view_is
    (ask-asks c.self.inside.lines c.self.inside.words c.self.inside.skips c.self.inside.owed c.set_asked.new.self
    c.args.out.now.list.items c.push.new.self.list.items
    c.args.owner c.args.line c.set_asked.ensures.map (sym c.asked.ensures ∙ c.if-asked.false) c.in_ok-push.ensures.sent)
