use Rattle.std.proofs.Common.{ap}
use Rattle.rules_maps.specs.Serving.{first_serving}
use Rattle.skip_vector.proofs.ring.RingSkipsSkips.new.Goals as goal

pub returns : goal.returns
unfolding first_serving
returns c = ap (λ xs. record { serving = 1; skips = xs }) c.new.ensures.items
