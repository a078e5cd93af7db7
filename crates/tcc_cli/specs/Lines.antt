-- What is written behind the bytes that an output told before.
use Rattle.std.specs.Prelude.{ℕ, List, length, take, ◌≡◌, ◌<◌, ◌⊎◌}
use Rattle.std.specs.Fmt.{decimal}
use Rattle.std.specs.Io.KnownBytes.{Appends}
use Rattle.tcc_cli.specs.declared.refusal.Piece.{Piece}
use Rattle.tcc_cli.specs.declared.refusal.Piece.TheVariants.{Text, Number}
use Rattle.tcc_world.specs.Faults.{Rose}
use Rattle.tcc_world.specs.Page.{Written}

abbrev pub piece_text : Piece → List ℕ
piece_text (Text text) = text.now
piece_text (Number n) = decimal n

-- a first part of the text was written, and not all of it, and the count of faults rose
abbrev pub IsCut : List ℕ → Written → Type 0
IsCut text o =
    (n : ℕ) × (n < length text) × Appends o.before.bytes o.after.bytes (take n text) × Rose o.before.faults o.after.faults

-- the text stands behind the bytes that the output told before, once
abbrev pub IsWhole : List ℕ → Written → Type 0
IsWhole text o = Appends o.before.bytes o.after.bytes text

-- all of the text was written, or a first part where the count of faults rose
abbrev pub IsTold : List ℕ → Written → Type 0
IsTold text o = IsWhole text o ⊎ IsCut text o

-- nothing was written
abbrev pub IsSilent : Written → Type 0
IsSilent o = o.after.bytes ≡ o.before.bytes
