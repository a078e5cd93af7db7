-- One more log.
use Rattle.std.proofs.Common.{◌≡◌, ◌++◌, ◌∷◌, [], ap, sym, ◌∙◌, rules, append_assoc}
use Rattle.std.specs.Prelude.{reverse}
use Rattle.node_locks.specs.Wiring.{logs_of}
use Rattle.node_locks.proofs.Entries.{logs-end, logs-first, reverse-last}
use Rattle.node_locks.proofs.closing.take_logs.Goals as goal

pub loop-node-preserved : goal.loop-node-preserved
loop-node-preserved c =
    let n = c.in-Some.node in
    let left = c.pop.new.self.items in
    let split : reverse c.loop-node.nodes.items ≡ n ∷ reverse left = ap reverse c.in-Some.ensures.items ∙ reverse-last left n in
    let logs : logs_of (reverse c.loop-node.nodes.items) ≡ n.log ∷ logs_of (reverse left) = ap logs_of split
    ∙ logs-first n (reverse left) in
    record {
      all = ap (λ l. l ++ logs_of (reverse left)) (c.push_reserved.ensures.items
          ∙ ap (λ log. c.loop-node.logs.items ++ log ∷ []) c.into_log.ensures)
          ∙ append_assoc c.loop-node.logs.items (n.log ∷ []) (logs_of (reverse left))
          ∙ ap (λ l. c.loop-node.logs.items ++ l) (sym logs) ∙ c.loop-node.invariant.all;
      room = search rules;
    }

pub returns : goal.returns
returns c =
    logs-end c.loop-node.logs.items (logs_of c.args.nodes.items) c.loop-node.nodes.items (search rules) c.loop-node.invariant.all
