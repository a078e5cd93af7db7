use Rattle.std.proofs.Common.{refl}
use Rattle.std.specs.Prelude.{codes}
use Rattle.report_text.specs.Lines.{mem_line}
use Rattle.base_digits.specs.Digits.{hex}
use Rattle.report_text.proofs.Ascii.{two_numbers}
use Rattle.report_text.proofs.often.put_mem.Goals as goal

pub returns-clause-ascii : goal.returns-clause-ascii
unfolding mem_line
returns-clause-ascii c =
    two_numbers (codes "mem ") (hex 8 c.args.addr) (hex 8 c.args.value) refl
    c.put_hex-at.ensures.ascii c.put_hex_field-at.ensures.ascii
