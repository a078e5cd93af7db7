-- The masks of a TID's Marks: while its core has it, they are of the words that the core has modified.
use Rattle.std.specs.Prelude.{ℕ, ◌+◌, ◌≡◌, ◌<◌, ◌==◌, ◌&&◌, true, not}
use Rattle.rules_maps.specs.Words.{num}
use Rattle.rules_maps.specs.Cache.{modified_mask}
use Rattle.rules_maps.specs.Lines.{has_mark}
use Rattle.rules_maps.specs.Shape.{Shape}
use Rattle.rules_tcc.specs.State.{World}
use Rattle.theorem_serial.specs.Count.{MarkMask, live}
use Rattle.theorem_serial.specs.Pairs.{Pair, pair}
use Rattle.theorem_serial.specs.Tids.{has_tid}

-- the Marks of a line by a TID with another mask than this: in flight from this core, or handled by the directory that serves it
unfoldable pub wrong_marks : (tid line mask : ℕ) → Pair → ℕ
wrong_marks t l m v =
    live (MarkMask t l m) v.out + num (v.dir.serving.serving == t && (has_mark v.dir.lines l && not (v.dir.lines.mark l == m)))

-- Each Mark of a core's TID, in flight or handled, has as its mask the words of its line that the core has modified.
abbrev pub MaskedOf : (tid line : ℕ) → Pair → Type 0
MaskedOf t l v = has_tid v.core.phase t ≡ true → wrong_marks t l (modified_mask v.core.cache l) v ≡ 0

abbrev pub KeptMasks : Shape → World → Type 0
KeptMasks sh w = (c d t l : ℕ) → c < sh.cores → d < sh.dirs → MaskedOf t l (pair w c d)
