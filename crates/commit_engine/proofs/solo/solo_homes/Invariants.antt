use Rattle.std.proofs.Common.{◌≡◌}
use Rattle.rules_maps.specs.Masks.{has}
use Rattle.rules_tcc.specs.Commit.{solo_writes_at}
use Rattle.spec_cache.specs.Held.{maps}
use Rattle.overflow_buf.specs.Kept.{spilled as words_of}
use Rattle.commit_engine.specs.Engine.{first_with}
use Rattle.commit_engine.proofs.solo.solo_homes.Given as goal

abbrev pub invariant-loop-d : goal.invariant-loop-d
invariant-loop-d l = record { found : has l.set.bits ≡ first_with l.d (solo_writes_at l.cfg (maps l.cache) (words_of l.spilled)) }
