-- Words of four bytes, as they are read from RAM and as memory's definition has them.
use Rattle.std.proofs.Common.{◌≡◌, ℕ, List, drop, slice_index, arith, add-zero}
use Rattle.std.proofs.lemmas.List.{get_or-drop}
use Rattle.byteorder.specs.Endian.{little_number}
use Rattle.image_load.specs.Memory.{word_of}

pub word_of-drop : (ram : List ℕ) (place : ℕ) → little_number 4 (drop place ram) ≡ word_of (slice_index ram) place
unfolding word_of
word_of-drop ram place = simp (get_or-drop, add-zero) (omega arith)
