-- What holds of every core, where only its cache changes.
use Rattle.std.proofs.Common.{◌≡◌, ℕ, zero, suc, get_or, replicate, Bool, Option, Some, None, refl, ap, ◌∙◌}
use Rattle.tcc_base.specs.declared.names.Tid.{Tid}
use Rattle.rules_maps.specs.Cache.{Cache}
use Rattle.commit_engine.specs.Engine.{after_of}
use Rattle.spec_cache.specs.Held.{Held, maps}
use Rattle.core_node.specs.declared.state.Core.{Core}
use Rattle.core_node.specs.declared.state.Awaited.{Awaited}
use Rattle.core_node.specs.View.{AwaitsFrame, IsCore}

pub awaits_same : (a b : Cache) (o : Option Awaited) → b.held ≡ a.held → AwaitsFrame a o → AwaitsFrame b o
awaits_same a b None e w = w
awaits_same a b (Some x) e w = ap (λ (h : ℕ → Bool). h x.line.0) e ∙ w

pub whole_cache : (c : Core) (h : Held) → IsCore c → h.config ≡ c.cache.config → (maps h).held ≡ (maps c.cache).held
    → IsCore (record c { cache = h })
whole_cache c h s e f = record {
  cache = e ∙ s.cache;
  awaited = awaits_same (maps c.cache) (maps h) c.awaited f s.awaited;
  after = s.after;
}

abbrev no_tid : Tid
no_tid = record { 0 = 0 }

zeros : (n d : ℕ) → (get_or (replicate n no_tid) d no_tid).0 ≡ 0
zeros zero d = refl
zeros (suc n) zero = refl
zeros (suc n) (suc d) = zeros n d

pub after_none : after_of (replicate 64 (record { 0 = 0 })) ≡ (λ d. 0)
unfolding after_of
after_none = λ i d. (zeros 64 d) i
