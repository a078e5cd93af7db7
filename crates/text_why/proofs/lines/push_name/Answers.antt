-- The words of the name, one after another.
use Rattle.std.proofs.Common.{arith}
use Rattle.std.proofs.lemmas.Grind.{common_steps}
use Rattle.text_why.proofs.Written.{name-written}
use Rattle.text_why.proofs.lines.push_name.Goals as goal

pub returns : goal.returns
returns c =
    let words = name-written c.args.name.src c.args.name.dst c.args.name.seq in
    grind (arith, common_steps, words)
