-- There is no piece.
use Rattle.std.proofs.Common.{length, sym, ap, subst, arith}
use Rattle.machine_links.specs.Pieces.{AreFull, flat}
use Rattle.machine_links.proofs.rest.Rest.new.Goals as goal

pub invariant_of-result : goal.invariant_of-result
unfolding flat
invariant_of-result c = record {
  counted = sym (ap (λ xs. length (flat xs)) c.new.ensures.items);
  full = subst AreFull (sym c.new.ensures.items) (λ k l. absurd (omega arith));
}

pub returns : goal.returns
unfolding flat
returns c = ap flat c.new.ensures.items
