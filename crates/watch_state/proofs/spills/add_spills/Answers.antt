-- Nothing is spilled.
use Rattle.std.proofs.Common.{rules}
use Rattle.rules_maps.specs.Shape.{lines}
use Rattle.watch_state.proofs.Spilling.{none-spilled}
use Rattle.watch_state.proofs.spills.add_spills.Goals as goal

pub returns-then-is_empty : goal.returns-then-is_empty
returns-then-is_empty c =
    let sh = c.args.config.now in
    rw (c.is_empty.ensures.0 c.if-is_empty.true, none-spilled sh c.args.core.0 (lines sh)) (search rules)
