-- Nothing is counted.
use Rattle.std.proofs.Common.{◌≡◌, replicate, rules}
use Rattle.base_sums.proofs.Summed.{none-sums}
use Rattle.base_sums.proofs.tree.SumTree.new.Goals as goal

pub invariant_of-result : goal.invariant_of-result
invariant_of-result c =
    let counts : c.in_ok-map_err.field-0.items ≡ replicate c.args.places 0 = search rules in
    let sums : c.in_ok-map_err-2.field-0.items ≡ replicate c.blocks_of-blocks.result 0 = search rules in
    let tops : c.in_ok-map_err-3.field-0.items ≡ replicate c.blocks_of.result 0 = search rules in
    rw (counts, sums, tops, c.blocks_of.ensures, c.blocks_of-blocks.ensures) (none-sums c.args.places c.requires)
