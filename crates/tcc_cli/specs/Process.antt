-- The words that a process was started with, and what comes of them where they can't be read.
use Rattle.std.specs.Prelude.{ℕ, List, map, drop, String, ◌≡◌}
use Rattle.std.specs.Global.{Global}
use Rattle.std.specs.String.{string_bytes}
use Rattle.std.specs.Vec.Iter.{into_iter_items}
use Rattle.std.specs.declared.io.ErrorKind.{ErrorKind}
use Rattle.std.specs.declared.io.ErrorKind.TheVariants.{OutOfMemory}
use Rattle.std.specs.declared.vec.IntoIter.{IntoIter}
use Rattle.tcc_cli.specs.Around.{Around, IsUntouched}
use Rattle.tcc_cli.specs.Lines.{IsSilent, IsTold}
use Rattle.tcc_world.specs.Page.{Written}
use Rattle.tcc_cli.specs.Refusals.{line_of, refusal_status}
use Rattle.tcc_cli.specs.declared.refusal.Refusal.{Refusal}
use Rattle.tcc_cli.specs.declared.refusal.Refusal.TheVariants as why
use Rattle.tcc_cli.specs.declared.status.Status.{Status}

-- the words after the program's own name
abbrev pub words_in : IntoIter (String Global) Global → List (List ℕ)
words_in given = map string_bytes (drop 1 (into_iter_items given))

-- why they weren't read: memory was short, or one of them is no text
abbrev pub unread : ErrorKind → Refusal
unread OutOfMemory = why.Memory
unread _ = why.Words

-- the line of a refusal is all that was written, and nothing else was done
pub record IsRefusedAtOnce (r : Refusal) (w : Around) (err : Written) (status : Status) : Type 0 where
  pub status_is : status ≡ refusal_status r
  pub told : IsTold (line_of r) err
  pub untouched : IsUntouched w.files
  pub silent : IsSilent w.out
