use Rattle.std.proofs.Common.{◌≡◌, None, ap, sym, ◌∙◌}
use Rattle.rules_maps.specs.CacheChange.{words_dropped}
use Rattle.rules_maps.specs.Spilled.{Spilled, none_spilled}
use Rattle.spec_cache.specs.Held.{maps}
use Rattle.overflow_buf.specs.Kept.{spilled}
use Rattle.core_node.proofs.Dropped.{dropped_line, dropped_none}
use Rattle.core_node.proofs.Emptied.{no_back}
use Rattle.core_node.proofs.committing.drop_spilled.Goals as goal

pub loop-line-preserved : goal.loop-line-preserved
loop-line-preserved c = record {
  config = c.drop_words.ensures.config ∙ c.loop-line.invariant.config;
  dropped = dropped_line c.in-Some.line.0 c.in-Some.mask.0 (spilled c.loop-line.spilled) (spilled c.take_line.new.self)
      (maps c.loop-line.cache)
      (maps c.drop_words.new.self) c.in-Some.ensures.mask c.in-Some.ensures.taken c.drop_words.ensures.maps ∙ c.loop-line.invariant.dropped;
}

pub returns-clause-dropped : goal.returns-clause-dropped
returns-clause-dropped c =
    let n : c.take_line.result ≡ None = no_back c.take_line.result c.in_default.not-Some in
    let e : spilled c.loop-line.spilled ≡ none_spilled = rw n at c.take_line.ensures.none in
    sym (dropped_none (maps c.loop-line.cache)) ∙ ap (λ (f : Spilled). words_dropped f (maps c.loop-line.cache)) (sym e)
    ∙ c.loop-line.invariant.dropped
