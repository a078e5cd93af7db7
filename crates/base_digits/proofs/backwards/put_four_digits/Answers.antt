use Rattle.std.proofs.Common.{arith}
use Rattle.std.proofs.lemmas.Grind.{common_steps}
use Rattle.base_digits.proofs.Hex.{four-joined}
use Rattle.base_digits.proofs.backwards.put_four_digits.Goals as goal

pub returns-clause-written : goal.returns-clause-written
returns-clause-written c =
    let halves = four-joined c.args.value in
    grind (arith, common_steps, halves)
