-- What is written, with the rows of the directories that are left, is the rows of all; and those so far are of one home each.
use Rattle.std.proofs.Common.{◌≡◌, ◌++◌, codes, drop, map}
use Rattle.directory.specs.Data.{DirData}
use Rattle.checkpoint_text.specs.Numbers.{flag}
use Rattle.checkpoint_text.specs.Tables.{each}
use Rattle.checkpoint_text.specs.Written.{numbered_text}
use Rattle.checkpoint_text.proofs.Each.{HoldsBelow}
use Rattle.checkpoint_text.proofs.directories.push_skip_table.Given as goal

abbrev pub invariant-loop-k : goal.invariant-loop-k
invariant-loop-k l = record {
  written : l.text ++ numbered_text (codes "skipped") (each (λ (d : DirData). map flag d.serving.skips)) l.k (drop l.k l.dirs)
      ≡ l.fn.text ++ numbered_text (codes "skipped") (each (λ (d : DirData). map flag d.serving.skips)) 0 l.dirs;
  home : HoldsBelow (λ (d : DirData). d.words.place ≡ d.lines.place) l.dirs l.k;
}
