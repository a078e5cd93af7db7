use Rattle.std.proofs.Common.{arith}
use Rattle.std.proofs.lemmas.Grind.{common_steps}
use Rattle.base_digits.proofs.Ascii.{hex_byte_ascii}
use Rattle.base_digits.proofs.Hex.{two-digits}
use Rattle.base_digits.proofs.backwards.put_hex_byte.Goals as goal

pub returns-clause-written : goal.returns-clause-written
returns-clause-written c =
    let digits = two-digits c.args.byte (omega arith) in
    grind (arith, common_steps, digits)

pub returns-clause-ascii : goal.returns-clause-ascii
returns-clause-ascii c = hex_byte_ascii c.args.byte (omega arith)
