-- What a desk keeps stays so.
use Rattle.std.proofs.Common.{◌∙◌, arith}
use Rattle.node_locks.proofs.Entries.{entries-turn}
use Rattle.node_locks.proofs.desk.Desk.turn.Goals as goal

pub invariant_of-self : goal.invariant_of-self
invariant_of-self g c =
    let old = c.args.self.now in
    let new = c.act_on-acts.new.node in
    let entries = entries-turn old.node new c.args.words.now c.act_on-acts.result c.act_on-acts.ensures.acted in
    record {
      is = c.act_on-acts.ensures.of g.W.Setup.code g.W.Setup.link old.is;
      part = c.book.ensures.part ∙ old.part;
      same = omega (arith, c.book.ensures.mark, old.same, entries, c.moved-moved.ensures);
    }

pub invariant_of-self-else-moved-gt0 : goal.invariant_of-self-else-moved-gt0
invariant_of-self-else-moved-gt0 g c =
    let old = c.args.self.now in
    let new = c.act_on-acts.new.node in
    let entries = entries-turn old.node new c.args.words.now c.act_on-acts.result c.act_on-acts.ensures.acted in
    record {
      is = c.act_on-acts.ensures.of g.W.Setup.code g.W.Setup.link old.is;
      part = old.part;
      same = omega (arith, old.same, entries, c.moved-moved.ensures);
    }
