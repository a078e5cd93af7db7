use Rattle.std.proofs.Common.{◌≡◌, ◌<◌, ◌/◌, ◌%◌, ◌^◌, ℕ, length, slice_index, arith}
use Rattle.image_load.specs.Contents.{started}
use Rattle.rv_plain.proofs.Starts.{flat-first}
use Rattle.rv_plain.proofs.memory.BufferedRam.new.Goals as goal

pub returns-clause-ram : goal.returns-clause-ram
unfolding started
returns-clause-ram c =
    let s = started c.args.code.now in
    let len : length c.loop-w.ram.items ≡ c.args.code.now.settings.ram / 4 = grind (arith, c.loop-w.invariant.0) in
    let same : (k : ℕ) → k < c.args.code.now.settings.ram / 4 → slice_index c.loop-w.ram.items k ≡ s.word k % 2 ^ 32
    = λ k h. c.loop-w.invariant.1 k (omega arith) in
    λ i w. (flat-first s c.loop-w.ram.items len same w) i
