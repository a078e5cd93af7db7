use Rattle.std.proofs.Common.{◌∙◌, refl}
use Rattle.run_outcomes.proofs.Added.{first-found}
use Rattle.run_outcomes.proofs.search.first_table.Goals as goal

pub returns-clause-found : goal.returns-clause-found
returns-clause-found c =
    first-found c.args.loaded.now c.in_ok-cores.cores c.add_first.new.self c.in_ok-cores.ensures.length c.in_ok-cores.ensures.each
    (c.in_ok-add_first.ensures ∙ rw (c.new-table.ensures, c.new.ensures) refl)
