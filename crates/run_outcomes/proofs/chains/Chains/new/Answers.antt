use Rattle.std.proofs.Common.{ap, length, nat_eq}
use Rattle.std.specs.Map.{lookup}
use Rattle.run_outcomes.proofs.Chained.{chained-nothing}
use Rattle.run_outcomes.proofs.chains.Chains.new.Goals as goal

pub returns : goal.returns
returns c = chained-nothing (record { newest = c.new.result; older = c.new-2.result }) (ap length c.new-2.ensures)
    (λ key. ap (λ entries. lookup (nat_eq key) entries) c.new.ensures.empty)
