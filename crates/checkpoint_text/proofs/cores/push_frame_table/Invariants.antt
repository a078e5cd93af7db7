-- What is written, with the rows of the cores that are left, is the rows of all; and the caches so far are of their cores' settings.
use Rattle.std.proofs.Common.{◌≡◌, ◌++◌, codes, drop}
use Rattle.core_node.specs.declared.state.Core.{Core}
use Rattle.checkpoint_text.specs.Cores.{frame_rows}
use Rattle.checkpoint_text.specs.Tables.{all}
use Rattle.checkpoint_text.specs.Written.{numbered_text}
use Rattle.checkpoint_text.proofs.Each.{HoldsBelow}
use Rattle.checkpoint_text.proofs.cores.push_frame_table.Given as goal

abbrev pub invariant-loop-k : goal.invariant-loop-k
invariant-loop-k l = record {
  written : l.text ++ numbered_text (codes "frame") (all (λ (c : Core). frame_rows 0 c.cache.frames) (λ row. row)) l.k (drop l.k l.cores)
      ≡ l.fn.text ++ numbered_text (codes "frame") (all (λ (c : Core). frame_rows 0 c.cache.frames) (λ row. row)) 0 l.cores;
  caches : HoldsBelow (λ (c : Core). c.cache.config ≡ c.config) l.cores l.k;
}
