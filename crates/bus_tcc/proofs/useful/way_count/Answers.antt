-- In the set in which the core waits for room.
use Rattle.std.proofs.Common.{None, length, ap, sym, ◌∙◌}
use Rattle.bus_tcc.proofs.Using.{set-below, set-count, ways-at}
use Rattle.bus_tcc.proofs.useful.way_count.Goals as goal

pub loose_count-requires-clause-exists : goal.loose_count-requires-clause-exists
loose_count-requires-clause-exists c = set-below _ _ _ c.in-Some.set c.requires.sets (sym c.in-Some.is ∙ c.requires.waits)

pub returns-in-Some : goal.returns-in-Some
returns-in-Some c = set-count _ _ _ c.in-Some.set _ (sym c.in-Some.is ∙ c.requires.waits) c.loose_count.ensures

pub returns-in-None : goal.returns-in-None
returns-in-None c = ap length (ways-at _ _ _ None (sym c.in-None.is ∙ c.requires.waits))
