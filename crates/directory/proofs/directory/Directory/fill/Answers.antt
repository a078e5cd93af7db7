use Rattle.directory.proofs.Giving.{gives-from, fill-fills}
use Rattle.directory.proofs.directory.Directory.fill.Goals as goal

pub returns-clause-gives : goal.returns-clause-gives
returns-clause-gives c =
    gives-from c.self.view_is
    (fill-fills c.self.inside.lines c.self.inside.words c.self.inside.skips c.self.inside.owed c.set_shares.new.self
    c.args.out.now.list.items c.push.new.self.list.items
    c.args.src c.args.line c.line-words.result c.set_shares.ensures.map c.line-words.ensures c.in_ok-push.ensures.sent)
