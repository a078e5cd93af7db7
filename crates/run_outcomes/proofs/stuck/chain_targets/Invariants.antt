use Rattle.std.proofs.Common.{map, take}
use Rattle.run_outcomes.specs.Chains.{AreChained}
use Rattle.run_outcomes.proofs.stuck.chain_targets.Given as goal

abbrev pub invariant-loop-edge : goal.invariant-loop-edge
invariant-loop-edge l = AreChained (map (λ e. e.to) (take l.edge-index l.edges)) l.chains
