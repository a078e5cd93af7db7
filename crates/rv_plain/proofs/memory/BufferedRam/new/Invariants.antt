use Rattle.std.proofs.Common.{◌≡◌, ℕ, ◌<◌, ◌%◌, ◌^◌, length, slice_index}
use Rattle.image_load.specs.Contents.{started}
use Rattle.rv_plain.proofs.memory.BufferedRam.new.Given as goal

abbrev pub invariant-loop-w : goal.invariant-loop-w
invariant-loop-w l =
    (length l.ram.items ≡ l.w) × ((k : ℕ) → k < l.w → slice_index l.ram.items k ≡ (started l.code).word k % 2 ^ 32)
