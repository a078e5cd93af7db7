-- Lists that are alike are equal.
use Rattle.watch_changes.proofs.Coded.{equal-test}
use Rattle.watch_changes.proofs.same.are_words.Goals as goal

pub returns : goal.returns
returns c = equal-test c.args.a.now c.args.b.now c.are_equal.result c.are_equal.ensures
