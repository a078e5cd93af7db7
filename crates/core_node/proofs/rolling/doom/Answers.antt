use Rattle.std.proofs.Common.{ap}
use Rattle.rules_tcc.specs.State.{CoreState, DoomedTid}
use Rattle.core_node.specs.View.{core_of}
use Rattle.core_node.proofs.rolling.doom.Goals as goal

pub returns-clause-does : goal.returns-clause-does
unfolding core_of
returns-clause-does c = ap (λ (s : CoreState). record s { phase = DoomedTid }) c.roll_back.ensures.does
