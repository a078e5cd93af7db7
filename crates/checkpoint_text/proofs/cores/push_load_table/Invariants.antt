-- What is written, with the rows of the cores that are left, is the rows of all.
use Rattle.std.proofs.Common.{◌≡◌, ◌++◌, codes, drop}
use Rattle.core_node.specs.declared.state.Core.{Core}
use Rattle.checkpoint_text.specs.Numbers.{load_numbers}
use Rattle.checkpoint_text.specs.Tables.{all}
use Rattle.checkpoint_text.specs.Written.{numbered_text}
use Rattle.checkpoint_text.proofs.cores.push_load_table.Given as goal

abbrev pub invariant-loop-k : goal.invariant-loop-k
invariant-loop-k l =
    l.text ++ numbered_text (codes "load") (all (λ (c : Core). c.loads) load_numbers) l.k (drop l.k l.cores)
    ≡ l.fn.text ++ numbered_text (codes "load") (all (λ (c : Core). c.loads) load_numbers) 0 l.cores
