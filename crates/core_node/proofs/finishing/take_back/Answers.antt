use Rattle.std.proofs.Common.{ap, ◌∙◌}
use Rattle.rv_exec.specs.declared.need.Need.{Need}
use Rattle.rv_exec.specs.Needs.{need_of}
use Rattle.core_node.specs.Executing.{noted}
use Rattle.core_node.specs.View.{core_of}
use Rattle.core_node.proofs.Unnoted.{back_load, back_store, back_change, back_print}
use Rattle.core_node.proofs.finishing.take_back.Goals as goal

pub returns-in-Load-clause-undone : goal.returns-in-Load-clause-undone
unfolding core_of
returns-in-Load-clause-undone c = λ x s e.
    back_load (core_of c.args.core.now) s _ c.pop.new.self c.pop.ensures.rest (e ∙ ap (λ (n : Need). noted (need_of n) x s) c.in-Load.is)

pub returns-in-Store-clause-undone : goal.returns-in-Store-clause-undone
unfolding core_of
returns-in-Store-clause-undone c = λ x s e.
    back_store (core_of c.args.core.now) s _ c.pop-in-Store.new.self c.pop-in-Store.ensures.rest
    (e ∙ ap (λ (n : Need). noted (need_of n) x s) c.in-Store.is)

pub returns-in-Amo-clause-undone : goal.returns-in-Amo-clause-undone
unfolding core_of
returns-in-Amo-clause-undone c = λ x s e.
    back_change (core_of c.args.core.now) s _ _ c.pop-in-Amo.new.self c.pop-in-Amo-2.new.self c.pop-in-Amo.ensures.rest
    c.pop-in-Amo-2.ensures.rest (e ∙ ap (λ (n : Need). noted (need_of n) x s) c.in-Amo.is)

pub returns-in-Console-clause-undone : goal.returns-in-Console-clause-undone
unfolding core_of
returns-in-Console-clause-undone c = λ x s e.
    back_print (core_of c.args.core.now) s _ c.pop-in-Console.new.self c.pop-in-Console.ensures.rest
    (e ∙ ap (λ (n : Need). noted (need_of n) x s) c.in-Console.is)
