use Rattle.dir_lines.proofs.Restoring.{kept-elsewhere}
use Rattle.dir_lines.proofs.array.DirLines.keeps_home.Goals as goal

pub returns : goal.returns
returns c = λ l away. kept-elsewhere c.args.self.now l away
