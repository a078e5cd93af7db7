-- In the set in which the core waits for room.
use Rattle.std.proofs.Common.{None, Some, ap, ◌∙◌}
use Rattle.std.specs.Prelude.{slice_get}
use Rattle.bus_tcc.proofs.Using.{set-at, set-below, ways-at}
use Rattle.bus_tcc.proofs.useful.way_at.Goals as goal

pub returns-in_err-set : goal.returns-in_err-set
returns-in_err-set c = c.from_residual.ensures ∙ ap (λ ys. slice_get ys c.args.k) (ways-at _ _ _ None c.in_err-set.ensures)

pub loose_way-requires-clause-exists : goal.loose_way-requires-clause-exists
loose_way-requires-clause-exists c = set-below _ _ _ c.in_ok-set.set c.requires.sets c.in_ok-set.ensures

pub returns-in_err-way : goal.returns-in_err-way
returns-in_err-way c =
    c.from_residual-in_err-way.ensures ∙ set-at _ _ _ c.in_ok-set.set c.args.k None c.in_ok-set.ensures c.in_err-way.ensures

pub returns : goal.returns
returns c = set-at _ _ _ c.in_ok-set.set c.args.k (Some c.in_ok-way.way) c.in_ok-set.ensures c.in_ok-way.ensures
