use Rattle.std.proofs.Common.{◌≡◌, ◌≤◌, ◌*◌, ◌∙◌, ap, arith}
use Rattle.tcc_base.specs.Settings.{Settings}
use Rattle.spec_cache.specs.Useful.{wants_of}
use Rattle.spec_cache.proofs.UsefulSets.{first_set, all_blocks}
use Rattle.spec_cache.proofs.cache.SpecCache.useful_way.Goals as goal

pub loop-block-init : goal.loop-block-init
loop-block-init c = let z = first_set c.args.self.now (rw c.self.view_is at c.config.ensures.in_order) (wants_of c.args.wants) in
    omega (arith, z)

pub returns : goal.returns
returns c =
    let sets : c.sets-sets.result ≡ c.args.self.now.config.sets =
    rw c.self.view_is at (c.sets-sets.ensures.value ∙ ap (λ (x : Settings). x.sets) c.config.ensures.value) in
    let past : c.args.self.now.config.sets ≤ c.loop-block.block * 32 =
    omega (arith, sets, c.loop-block-test.false, c.loop-block.auto.block-end) in
    let all = all_blocks c.args.self.now (rw c.self.view_is at c.config.ensures.in_order) (wants_of c.args.wants) (c.loop-block.block * 32)
    past in
    omega (arith, all, c.loop-block.invariant)
