-- Of what is held and the last lines a first part was written.
use Rattle.std.proofs.Common.{subst}
use Rattle.text_outcomes.proofs.Parts.{longer-end}
use Rattle.text_outcomes.proofs.Put.{cut-none}
use Rattle.text_outcomes.specs.Written.{IsCut}
use Rattle.text_outcomes.proofs.writing.put_tail.Goals as goal

pub returns-in-Err-clause-broken : goal.returns-in-Err-clause-broken
returns-in-Err-clause-broken g c = cut-none _ _ (longer-end _ _ c.in-Err.ensures.some)

pub returns-in-Err-put_all-clause-broken : goal.returns-in-Err-put_all-clause-broken
returns-in-Err-put_all-clause-broken g c = (
  subst (λ xs. IsCut xs (g.O.Sink.page c.args.out.now).bytes (g.O.Sink.page c.put_all.new.out).bytes) c.in-Ok.ensures.text
      c.in-Err-put_all.ensures.cut,
  c.in-Err-put_all.ensures.cause,
)
