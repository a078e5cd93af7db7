-- One more node is behind its lock.
use Rattle.std.proofs.Common.{◌≡◌, ◌∷◌, [], suc, ap, sym, ◌∙◌, subst, arith, rules}
use Rattle.std.specs.Prelude.{reverse, length, slice_get, vec_len}
use Rattle.std.proofs.lemmas.List.{reverse-reverse, length-append}
use Rattle.node_locks.specs.Turns.{entries_in}
use Rattle.node_locks.specs.Wiring.{AreOf, logs_of}
use Rattle.node_locks.proofs.Entries.{entries-first, none-reversed, reverse-last}
use Rattle.node_locks.proofs.farm.put_down.Goals as goal

pub loop-node-init : goal.loop-node-init
loop-node-init g c =
    let same : reverse c.reverse.new.self.items ≡ c.args.nodes.items = ap reverse c.reverse.ensures.items
    ∙ reverse-reverse c.args.nodes.items in
    record {
      are = subst (λ l. AreOf g.W.Setup.code g.W.Setup.link l) (sym same) c.requires.are;
      parts = search rules;
      amount = c.requires.amount ∙ ap (λ l. entries_in (logs_of l)) (sym same);
      count = search rules;
      room = search rules;
    }

pub new-requires-clause-is : goal.new-requires-clause-is
new-requires-clause-is g c =
    let split = ap reverse c.in-Some.ensures.items ∙ reverse-last c.pop.new.self.items c.in-Some.node in
    c.loop-node.invariant.are 0 c.in-Some.node (ap (λ l. slice_get l 0) split)

pub new-requires-clause-counted : goal.new-requires-clause-counted
new-requires-clause-counted g c =
    let split = ap reverse c.in-Some.ensures.items ∙ reverse-last c.pop.new.self.items c.in-Some.node in
    let entries = ap (λ l. entries_in (logs_of l)) split ∙ entries-first c.in-Some.node (reverse c.pop.new.self.items) in
    omega (arith, c.loop-node.invariant.amount, entries)

pub new-requires-clause-backed : goal.new-requires-clause-backed
new-requires-clause-backed g c = λ one.
    let split = ap reverse c.in-Some.ensures.items ∙ reverse-last c.pop.new.self.items c.in-Some.node in
    let entries = ap (λ l. entries_in (logs_of l)) split ∙ entries-first c.in-Some.node (reverse c.pop.new.self.items) in
    let all : length c.loop-node.nodes.items ≡ vec_len c.loop-node.nodes = search rules in
    let more = ap length c.in-Some.ensures.items ∙ length-append c.pop.new.self.items (c.in-Some.node ∷ []) in
    let gone : length c.pop.new.self.items ≡ 0 = omega (arith, one, c.loop-node.invariant.parts, all, more) in
    omega (arith, c.loop-node.invariant.amount, entries, none-reversed c.pop.new.self.items gone)

pub loop-node-preserved : goal.loop-node-preserved
loop-node-preserved g c =
    let split = ap reverse c.in-Some.ensures.items ∙ reverse-last c.pop.new.self.items c.in-Some.node in
    let entries = ap (λ l. entries_in (logs_of l)) split ∙ entries-first c.in-Some.node (reverse c.pop.new.self.items) in
    record {
      are = λ i n e. c.loop-node.invariant.are (suc i) n (ap (λ l. slice_get l (suc i)) split ∙ e);
      parts = search rules;
      amount = omega (arith, c.loop-node.invariant.amount, entries, c.new.ensures.amount);
      count = search rules;
      room = search rules;
    }

pub returns-clause-amount : goal.returns-clause-amount
returns-clause-amount g c = c.loop-node.invariant.amount ∙ none-reversed c.loop-node.nodes.items (search rules)
