-- What is written, with the flags that are left, is all of them.
use Rattle.std.proofs.Common.{◌≡◌, ◌++◌, drop, map}
use Rattle.std.specs.List.{flat_map}
use Rattle.row_text.specs.Rows.{number_text}
use Rattle.checkpoint_text.specs.Numbers.{flag}
use Rattle.checkpoint_text.proofs.dir_rows.push_flags.Given as goal

abbrev pub invariant-loop-i : goal.invariant-loop-i
invariant-loop-i l =
    l.text ++ flat_map number_text (map flag (drop l.i l.dir.serving.skips))
    ≡ l.fn.text ++ flat_map number_text (map flag l.dir.serving.skips)
