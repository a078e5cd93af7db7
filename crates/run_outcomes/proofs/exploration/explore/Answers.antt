use Rattle.std.proofs.Common.{◌∙◌, ap, not, sym}
use Rattle.std.proofs.lemmas.Bool.{false≢true}
use Rattle.run_outcomes.proofs.Tried.{has-tried}
use Rattle.run_outcomes.proofs.exploration.explore.Goals as goal
use Rattle.run_outcomes.proofs.exploration.explore.Goals.{then-not-full, else-not-full}

pub go-requires-clause-tried : goal.go-requires-clause-tried
go-requires-clause-tried c = c.in_ok-search.ensures.tried c.args.limits.longest

pub returns-clause-tried : goal.returns-clause-tried
returns-clause-tried c =
    rw c.into_states.ensures (elim c.if-not-full.branch [
      | then-not-full w ↦
          has-tried c.args.limits _ c.in_ok-full.full c.in_ok-full.ensures.tried c.in_ok-full.ensures.limit
          (λ no'. w.done-is) (λ full. absurd (false≢true (sym w.if-not-full.true ∙ full)))
      | else-not-full w ↦
          has-tried c.args.limits _ c.in_ok-full.full c.in_ok-full.ensures.tried c.in_ok-full.ensures.limit
          (λ no'. absurd (false≢true (sym no' ∙ w.if-not-full.false))) (λ full. w.done-is ∙ ap not full)
    ])
