use Rattle.std.proofs.Common.{refl}
use Rattle.std.specs.Prelude.{codes}
use Rattle.std.specs.Fmt.{decimal}
use Rattle.tcc_base.specs.Bytes.{bytes_of}
use Rattle.report_text.specs.Lines.{load_line}
use Rattle.base_digits.specs.Digits.{hex}
use Rattle.report_text.proofs.Ascii.{three_numbers}
use Rattle.report_text.proofs.often.put_load.Goals as goal

pub returns-clause-ascii : goal.returns-clause-ascii
unfolding load_line
returns-clause-ascii c =
    let load = c.args.load.now in
    three_numbers (codes "load ") (hex 8 load.addr) (decimal (bytes_of load.size)) (hex 8 load.value) refl
    c.put_hex-at.ensures.ascii (rw c.bytes.ensures at c.put_field-at.ensures.ascii) c.put_hex_field-at.ensures.ascii
