use Rattle.std.proofs.Common.{ap, subst, sym, lit≤}
use Rattle.rules_maps.specs.Serving.{first_serving}
use Rattle.skip_vector.specs.Window.{window, Rises}
use Rattle.skip_vector.proofs.set.SetSkipsSkips.new.Goals as goal

pub returns : goal.returns
unfolding first_serving window
returns c = ap (λ ts. record { serving = 1; skips = window 2 ts }) c.new.ensures.empty

pub invariant_of-result : goal.invariant_of-result
unfolding Rises
invariant_of-result c = (lit≤ tt, subst (Rises 2) (sym c.new.ensures.empty) tt)
