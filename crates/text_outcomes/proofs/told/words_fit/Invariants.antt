-- The words so far have 32 bits.
use Rattle.std.proofs.Common.{ℕ, ◌<◌, ◌^◌}
use Rattle.image_load.specs.Contents.{started}
use Rattle.text_outcomes.proofs.told.words_fit.Given as goal

abbrev pub invariant-loop-w : goal.invariant-loop-w
invariant-loop-w l = (w : ℕ) → w < l.w → (started l.loaded).word w < 2 ^ 32
