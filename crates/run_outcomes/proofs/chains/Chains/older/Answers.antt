use Rattle.std.proofs.Common.{◌≤◌, slice_index, arith}
use Rattle.std.proofs.lemmas.Grind.{common_steps}
use Rattle.run_outcomes.proofs.Chained.{older-none}
use Rattle.run_outcomes.proofs.chains.Chains.older.Goals as goal

pub returns-else-older-number-clause-older : goal.returns-else-older-number-clause-older
returns-else-older-number-clause-older c = λ keys h lt.
    let le : c.args.number ≤ slice_index c.args.self.now.older c.args.number = grind (arith, common_steps) in
    older-none keys c.args.self.now c.args.number h lt le
