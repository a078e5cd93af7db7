use Rattle.std.proofs.Common.{arith}
use Rattle.std.proofs.lemmas.Grind.{common_steps}
use Rattle.row_text.proofs.Numerals.{number_text_decimal}
use Rattle.row_text.proofs.writing.push_number.Goals as goal

pub returns : goal.returns
returns c = rw (number_text_decimal c.args.number c.ranges.number.fits) (grind (arith, common_steps))
