use Rattle.std.proofs.Common.{arith}
use Rattle.std.proofs.lemmas.Fmt.{IsAscii-decimal, length-decimal-le}
use Rattle.base_digits.proofs.backwards.put_number.Goals as goal

pub write_digits-requires : goal.write_digits-requires
write_digits-requires c = let short = length-decimal-le 20 c.args.number (omega arith) (omega arith) (omega arith) in omega arith

pub returns-clause-at : goal.returns-clause-at
returns-clause-at c = let short = length-decimal-le 20 c.args.number (omega arith) (omega arith) (omega arith) in (omega arith, omega arith)

pub returns-clause-ascii : goal.returns-clause-ascii
returns-clause-ascii c = IsAscii-decimal c.args.number (omega arith)
