use Rattle.std.proofs.Common.{◌≡◌, ℕ, nat_lt, cond, None, get_or}
use Rattle.std.specs.Option.{option_map}
use Rattle.spec_cache.specs.Change.{changed_frame}
use Rattle.spec_cache.proofs.slots.change_all.Given as goal

abbrev pub invariant-loop-way : goal.invariant-loop-way
invariant-loop-way l = (j : ℕ)
    → get_or l.ways j None ≡ cond (nat_lt j l.way-index) (option_map (changed_frame l.change) (get_or l.initial.ways j None))
    (get_or l.initial.ways j None)
