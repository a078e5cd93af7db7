-- What was written of bytes that come piece by piece.
use Rattle.std.specs.Prelude.{ℕ, ◌≡◌, ◌<◌, List, ◌++◌, Option, length, take}
use Rattle.std.specs.Io.KnownBytes.{Appends}
use Rattle.tcc_world.specs.Faults.{Rose}
use Rattle.tcc_world.specs.Page.{Written}
use Rattle.text_outcomes.specs.declared.writing.Broken.{Broken}
use Rattle.text_outcomes.specs.declared.writing.Broken.TheVariants.{Memory, Output}

-- of these bytes a first part was written, and the rest is held
pub record IsPut (all held : List ℕ) (before after : Option (List ℕ)) : Type 0 where
  pub written : List ℕ
  pub parts : all ≡ written ++ held
  pub appended : Appends before after written

-- a first part of these bytes was written, and not all
pub record IsCut (bytes : List ℕ) (before after : Option (List ℕ)) : Type 0 where
  pub n : ℕ
  pub short : n < length bytes
  pub appended : Appends before after (take n bytes)

-- why the bytes broke off, and what was written of them
abbrev pub IsBroken : (bytes : List ℕ) → Written → Broken → Type 0
IsBroken bytes o Memory = IsCut bytes o.before.bytes o.after.bytes
IsBroken bytes o Output = IsCut bytes o.before.bytes o.after.bytes × Rose o.before.faults o.after.faults
