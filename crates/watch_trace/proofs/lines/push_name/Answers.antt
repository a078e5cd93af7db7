-- The words of the name, one after another.
use Rattle.std.proofs.Common.{arith}
use Rattle.std.proofs.lemmas.Grind.{common_steps}
use Rattle.watch_trace.proofs.Written.{name-written}
use Rattle.watch_trace.proofs.lines.push_name.Goals as goal

pub returns : goal.returns
returns c =
    let words = name-written c.args.src c.args.dst c.args.seq in
    grind (arith, common_steps, words)
