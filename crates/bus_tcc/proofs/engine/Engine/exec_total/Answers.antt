-- The sum of the counts.
use Rattle.std.proofs.Common.{◌∙◌, subst}
use Rattle.bus_tcc.specs.Whole.{IsBusWhole}
use Rattle.bus_tcc.proofs.Choices.{exec-total, free-of}
use Rattle.bus_tcc.proofs.engine.Engine.exec_total.Goals as goal

pub returns-clause-count : goal.returns-clause-count
returns-clause-count c =
    c.total.ensures ∙ exec-total c.args.self.now c.args.counts.now _ (record {
      free = c.is_free.result;
      is = free-of _ c.args.self.now _ c.self.view_is c.is_free.ensures;
      counted = c.requires;
      same = c.execs.ensures;
    })

pub returns-clause-whole : goal.returns-clause-whole
returns-clause-whole c = subst IsBusWhole c.self.view_is c.self.invariant
