use Rattle.std.proofs.Common.{◌≡◌}
use Rattle.rules_maps.specs.Cache.{writes_at}
use Rattle.rules_maps.specs.Masks.{has}
use Rattle.spec_cache.specs.Held.{maps}
use Rattle.commit_engine.specs.Engine.{first_with}
use Rattle.commit_engine.proofs.homes.written_homes.Given as goal

abbrev pub invariant-loop-d : goal.invariant-loop-d
invariant-loop-d l = record { found : has l.set.bits ≡ first_with l.d (writes_at l.cfg (maps l.cache)) }
