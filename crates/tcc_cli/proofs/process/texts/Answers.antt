-- All were collected.
use Rattle.std.proofs.Common.{◌∙◌, sym}
use Rattle.tcc_cli.proofs.Yielded.{given-all}
use Rattle.tcc_cli.proofs.process.texts.Goals as goal

pub returns-in-Ok : goal.returns-in-Ok
returns-in-Ok c =
    let (xs, (last, given, over), (items, count)) = c.in-Ok.ensures.ran in
    items ∙ sym (given-all c.args.given xs last given (over tt).1.0)
