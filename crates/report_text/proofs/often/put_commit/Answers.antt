use Rattle.std.proofs.Common.{refl}
use Rattle.std.specs.Prelude.{codes}
use Rattle.std.specs.Fmt.{decimal}
use Rattle.report_text.specs.Lines.{commit_line}
use Rattle.report_text.proofs.Ascii.{three_numbers}
use Rattle.report_text.proofs.often.put_commit.Goals as goal

pub returns-clause-ascii : goal.returns-clause-ascii
unfolding commit_line
returns-clause-ascii c =
    let commit = c.args.commit.now in
    three_numbers (codes "commit ") (decimal commit.tid.0) (decimal commit.core.0) (decimal commit.n) refl
    c.put_number-at.ensures.ascii c.put_small_field-at.ensures.ascii c.put_field-at.ensures.ascii
