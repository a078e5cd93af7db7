use Rattle.std.proofs.Common.{sym, arith, ◌∙◌}
use Rattle.run_outcomes.proofs.Tried.{none-tried}
use Rattle.run_outcomes.proofs.search.Search.new.Goals as goal

pub returns-clause-found : goal.returns-clause-found
returns-clause-found c = rw c.in_ok-executor.ensures c.in_ok-table.ensures.found

pub returns-clause-led : goal.returns-clause-led
returns-clause-led c =
    let one = c.in_ok-table.ensures.one in
    record { counted = c.in_ok-ways.ensures ∙ sym one; led = λ k more less. absurd (omega (arith, more, less, one)) }

pub returns-clause-tried : goal.returns-clause-tried
returns-clause-tried c = λ longest. none-tried _ _ longest
