use Rattle.std.proofs.Common.{◌≡◌, length}
use Rattle.rules_maps.specs.CacheChange.{words_dropped}
use Rattle.spec_cache.specs.Held.{maps}
use Rattle.overflow_buf.specs.Kept.{spilled}
use Rattle.core_node.proofs.committing.drop_spilled.Given as goal

abbrev pub invariant-loop-line : goal.invariant-loop-line
invariant-loop-line l = record {
  config : l.cache.config ≡ l.fn.cache.config;
  dropped : words_dropped (spilled l.spilled) (maps l.cache) ≡ words_dropped (spilled l.fn.spilled) (maps l.fn.cache);
}

abbrev pub decreases-loop-line : goal.decreases-loop-line
decreases-loop-line l = length l.spilled
