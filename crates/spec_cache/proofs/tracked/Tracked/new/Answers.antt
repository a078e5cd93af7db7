use Rattle.spec_cache.proofs.Tallied.{few-ways}
use Rattle.spec_cache.proofs.TrackedKept.{IsTracked-empty}
use Rattle.spec_cache.proofs.tracked.Tracked.new.Goals as goal

pub invariant_of-result : goal.invariant_of-result
invariant_of-result c =
    rw (
      c.in_ok-empty_ways.ensures,
      c.in_ok-no_tags.ensures,
      c.in_ok-new.ensures,
      c.in_ok-new-2.ensures,
      c.sets.ensures.value,
      c.sets-2.ensures.value,
      c.sets-3.ensures.value,
      c.ways.ensures.value,
    ) (IsTracked-empty c.args.cfg.now (few-ways c.args.cfg.now c.sets.ensures.allowed))
