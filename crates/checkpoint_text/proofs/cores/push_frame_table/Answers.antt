-- Core by core.
use Rattle.std.proofs.Common.{◌≡◌, ◌∙◌, ap, refl, sym}
use Rattle.core_node.specs.declared.state.Core.{Core}
use Rattle.spec_cache.specs.Held.{Held}
use Rattle.checkpoint_text.specs.Cores.{frame_rows}
use Rattle.checkpoint_text.proofs.Each.{all-hold, none-below, one-more}
use Rattle.checkpoint_text.proofs.Written.{all-more, numbered-end}
use Rattle.checkpoint_text.proofs.cores.push_frame_table.Goals as goal

pub loop-k-init : goal.loop-k-init
loop-k-init c = record { written = refl; caches = none-below _ _ }

pub loop-k-preserved : goal.loop-k-preserved
loop-k-preserved c = record {
  written =
      all-more _ (λ (x : Core). frame_rows 0 x.cache.frames) (λ row. row) _ _ _ _ _ _ _ _ c.loop-k-test.true c.index-cores-k.is
      (ap (λ (h : Held). frame_rows 0 h.frames) c.cache.ensures.data) c.loop-k.invariant.written c.in_ok-push_frames.ensures;
  caches = one-more (λ (x : Core). x.cache.config ≡ x.config) _ _ _ _ c.index-cores-k.is
      (ap (λ (h : Held). h.config) (sym c.cache.ensures.data) ∙ c.cache.ensures.config) c.loop-k.invariant.caches;
}

pub returns-clause-caches : goal.returns-clause-caches
returns-clause-caches c = all-hold (λ (x : Core). x.cache.config ≡ x.config) _ _ c.loop-k-test.false c.loop-k.invariant.caches

pub returns-clause-text : goal.returns-clause-text
returns-clause-text c = numbered-end _ _ _ _ _ _ c.loop-k-test.false c.loop-k.invariant.written
