use Rattle.spec_cache.proofs.Forms.{IsHeld-empty}
use Rattle.spec_cache.proofs.list_frames.ListFrames.new.Goals as goal

pub invariant_of-result : goal.invariant_of-result
invariant_of-result c = rw (c.in_ok-empty_ways.ensures, c.sets.ensures.value, c.ways.ensures.value)
    (IsHeld-empty c.args.cfg.now c.sets.ensures.allowed)

pub returns-clause-in_order : goal.returns-clause-in_order
returns-clause-in_order c = rw (c.in_ok-empty_ways.ensures, c.sets.ensures.value, c.ways.ensures.value)
    (IsHeld-empty c.args.cfg.now c.sets.ensures.allowed)
