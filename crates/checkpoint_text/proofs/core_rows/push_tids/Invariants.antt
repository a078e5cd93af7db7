-- What is written, with the TIDs that are left, is all of them.
use Rattle.std.proofs.Common.{◌≡◌, ◌++◌, drop, map}
use Rattle.std.specs.List.{flat_map}
use Rattle.tcc_base.specs.declared.names.Tid.{Tid}
use Rattle.row_text.specs.Rows.{number_text}
use Rattle.checkpoint_text.proofs.core_rows.push_tids.Given as goal

abbrev pub invariant-loop-tid : goal.invariant-loop-tid
invariant-loop-tid l =
    l.text ++ flat_map number_text (map (λ (t : Tid). t.0) (drop l.tid-index l.tids))
    ≡ l.fn.text ++ flat_map number_text (map (λ (t : Tid). t.0) l.tids)
