-- What is written, with the rows of the cores that are left, is the rows of all.
use Rattle.std.proofs.Common.{◌≡◌, ◌++◌, codes, drop}
use Rattle.core_node.specs.declared.state.Core.{Core}
use Rattle.checkpoint_text.specs.Numbers.{local_numbers}
use Rattle.checkpoint_text.specs.Tables.{each}
use Rattle.checkpoint_text.specs.Written.{numbered_text}
use Rattle.checkpoint_text.proofs.cores.push_state_table.Given as goal

abbrev pub invariant-loop-k : goal.invariant-loop-k
invariant-loop-k l =
    l.text ++ numbered_text (codes "state") (each (λ (c : Core). local_numbers c.state)) l.k (drop l.k l.cores)
    ≡ l.fn.text ++ numbered_text (codes "state") (each (λ (c : Core). local_numbers c.state)) 0 l.cores
