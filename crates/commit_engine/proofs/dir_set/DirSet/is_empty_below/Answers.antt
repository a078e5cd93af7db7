use Rattle.std.proofs.Common.{ℕ, ◌&&◌, Bool, bit_and, ap, ◌∙◌}
use Rattle.rules_maps.specs.Masks.{has}
use Rattle.commit_engine.proofs.Bits.{empty_below, has-and}
use Rattle.commit_engine.proofs.dir_set.DirSet.is_empty_below.Goals as goal

pub returns : goal.returns
returns c =
    empty_below c.args.self.bits (bit_and c.args.self.bits c.below.result.bits) c.args.count
    (λ k. has-and c.args.self.bits c.below.result.bits k ∙ ap (λ (p : ℕ → Bool). has c.args.self.bits k && p k) c.below.ensures)
