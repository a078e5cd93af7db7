-- What is taken away is what is taken away from the numbers below the bound.
use Rattle.std.proofs.Common.{◌&&◌, not, ◌∙◌}
use Rattle.rules_maps.specs.Masks.{has}
use Rattle.watch_state.proofs.Growing.{within-alone}
use Rattle.watch_state.proofs.numbers.only_below.Goals as goal

pub returns : goal.returns
returns c =
    let p = has c.args.bits in
    within-alone p (has c.minus.result.bits) c.args.count c.requires
    (c.minus.ensures
    ∙ (λ i d. p d && not ((c.minus-beyond.ensures ∙ (λ j k. p k && not (c.below.ensures j k))) i d)))
