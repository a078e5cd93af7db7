-- What is written, with the rows of the directories that are left, is the rows of all.
use Rattle.std.proofs.Common.{◌≡◌, ◌++◌, codes, drop}
use Rattle.checkpoint_text.specs.Directories.{serving_numbers}
use Rattle.checkpoint_text.specs.Tables.{each}
use Rattle.checkpoint_text.specs.Written.{numbered_text}
use Rattle.checkpoint_text.proofs.directories.push_serving_table.Given as goal

abbrev pub invariant-loop-k : goal.invariant-loop-k
invariant-loop-k l =
    l.text ++ numbered_text (codes "directory") (each serving_numbers) l.k (drop l.k l.dirs)
    ≡ l.fn.text ++ numbered_text (codes "directory") (each serving_numbers) 0 l.dirs
