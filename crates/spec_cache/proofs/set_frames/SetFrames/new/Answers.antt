use Rattle.spec_cache.proofs.Forms.{IsHeld-empty}
use Rattle.spec_cache.proofs.Indexed.{IsIndexed-empty}
use Rattle.spec_cache.proofs.set_frames.SetFrames.new.Goals as goal

pub returns-clause-in_order : goal.returns-clause-in_order
returns-clause-in_order c = rw c.in_ok-new.ensures (IsHeld-empty c.args.cfg.now c.sets.ensures.allowed)

pub invariant_of-result : goal.invariant_of-result
invariant_of-result c =
    rw (c.in_ok-new-2.ensures, c.in_ok-new.ensures, c.sets.ensures.value, c.ways.ensures.value)
    (IsIndexed-empty c.args.cfg.now c.sets.ensures.allowed)
