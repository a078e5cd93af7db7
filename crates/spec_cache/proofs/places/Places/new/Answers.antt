use Rattle.std.proofs.Common.{◌≡◌, ◌∙◌, ap, length, Bool, List, false, arith}
use Rattle.std.proofs.lemmas.List.{length-replicate}
use Rattle.spec_cache.proofs.PlaceLaws.{IsNoted-empty}
use Rattle.spec_cache.proofs.places.Places.new.Goals as goal

pub invariant_of-result : goal.invariant_of-result
invariant_of-result c =
    let l : length c.in_ok-flags.flags.items ≡ c.args.size = ap (λ (bs : List Bool). length bs) c.in_ok-flags.ensures
    ∙ length-replicate c.args.size false in (
      rw c.in-Ok.ensures.items (IsNoted-empty c.args.size c.in_ok-flags.flags.items c.in_ok-flags.ensures),
      omega (arith, c.in-Ok.ensures.capacity, l),
    )
