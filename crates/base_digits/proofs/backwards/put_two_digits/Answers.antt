use Rattle.std.proofs.Common.{arith}
use Rattle.std.proofs.lemmas.Grind.{common_steps}
use Rattle.base_digits.proofs.Hex.{two-joined}
use Rattle.base_digits.proofs.backwards.put_two_digits.Goals as goal

pub returns-clause-written : goal.returns-clause-written
returns-clause-written c =
    let halves = two-joined c.args.byte (omega arith) in
    grind (arith, common_steps, halves)
