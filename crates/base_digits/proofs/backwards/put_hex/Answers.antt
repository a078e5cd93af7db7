use Rattle.std.proofs.Common.{arith}
use Rattle.std.proofs.lemmas.Grind.{common_steps}
use Rattle.base_digits.proofs.Ascii.{hex_ascii}
use Rattle.base_digits.proofs.Hex.{eight-digits, eight-joined}
use Rattle.base_digits.proofs.backwards.put_hex.Goals as goal

pub returns-clause-written : goal.returns-clause-written
returns-clause-written c =
    let digits = eight-digits c.args.value (omega arith) in
    let halves = eight-joined c.args.value in
    grind (arith, common_steps, digits, halves)

pub returns-clause-ascii : goal.returns-clause-ascii
returns-clause-ascii c = hex_ascii c.args.value (omega arith)
