use Rattle.report_text.proofs.Eights.{in_lines-eight}
use Rattle.report_text.proofs.shown.RefSliceArrayU328ShownWords.line.Goals as goal

pub returns : goal.returns
returns c = in_lines-eight c.args.self.now.now c.args.line.0
