use Rattle.std.proofs.Common.{refl}
use Rattle.core_node.specs.AtHand.{is_whole}
use Rattle.core_node.proofs.at_hand.is_whole.Goals as goal

pub returns-in-Some : goal.returns-in-Some
unfolding is_whole
returns-in-Some c = let v = c.in-Some.ensures.view in rw (v.0, ← v.1.valid) refl

pub returns-in-None : goal.returns-in-None
unfolding is_whole
returns-in-None c = rw c.in-None.ensures.view refl
