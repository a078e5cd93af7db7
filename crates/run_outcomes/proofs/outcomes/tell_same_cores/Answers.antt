use Rattle.std.proofs.Common.{◌≡◌, length, arith}
use Rattle.std.proofs.lemmas.Bool.{false≢true}
use Rattle.run_outcomes.proofs.Every.{told-items}
use Rattle.run_outcomes.proofs.outcomes.tell_same_cores.Goals as goal

pub returns-then-not-tells_same_core : goal.returns-then-not-tells_same_core
returns-then-not-tells_same_core c = (
  λ t. absurd (false≢true t),
  λ same.
      let sized : length c.args.a.now ≡ length c.args.b.now = grind arith in
      absurd (false≢true (c.if-not-tells_same_core.ensures.1
      (told-items c.args.a.now c.args.b.now c.loop-k.k c.index-a-k.result c.index-b-k.result c.loop-k-test.true sized c.index-a-k.is
      c.index-b-k.is same))),
)
