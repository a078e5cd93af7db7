-- What holds of a core that has committed, and what it notes of its directories.
use Rattle.std.proofs.Common.{◌≡◌, ℕ, ◌<◌, List, length, ap, ◌∙◌}
use Rattle.tcc_base.specs.declared.names.Tid.{Tid}
use Rattle.rules_maps.specs.Cache.{Cache, writes_at}
use Rattle.rules_maps.specs.CacheChange.{committed, words_dropped}
use Rattle.rules_maps.specs.Spilled.{Spilled}
use Rattle.rules_maps.specs.Masks.{has}
use Rattle.rules_maps.specs.Shape.{Shape}
use Rattle.rules_tcc.specs.Commit.{with_last_commit, solo_writes_at}
use Rattle.spec_cache.specs.Held.{Held, maps}
use Rattle.overflow_buf.specs.Kept.{Entries}
use Rattle.commit_engine.specs.Engine.{first_with}
use Rattle.commit_engine.proofs.Lemmas.{noted_all, writes_elsewhere, solo_writes_elsewhere}
use Rattle.core_node.specs.declared.state.Core.{Core}
use Rattle.core_node.specs.View.{IsCore}
use Rattle.core_node.proofs.Cores.{awaits_same}

pub whole_noted : (c : Core) (h : Held) (a : List Tid) → IsCore c → h.config ≡ c.cache.config → (maps h).held ≡ (maps c.cache).held
    → length a ≡ 64
    → IsCore (record c { cache = h; after = a })
whole_noted c h a s e f n = record {
  cache = e ∙ s.cache;
  awaited = awaits_same (maps c.cache) (maps h) c.awaited f s.awaited;
  after = n;
}

pub held_committed : (t : ℕ) (a b : Cache) → a ≡ committed t b → a.held ≡ b.held
unfolding committed
held_committed t a b e = ap (λ (x : Cache). x.held) e

pub noted_written : (sh : Shape) (c : Cache) (bits t n : ℕ) (a : ℕ → ℕ) → 0 < sh.dirs → n ≡ sh.dirs
    → has bits ≡ first_with sh.dirs (writes_at sh c)
    → with_last_commit (first_with n (has bits)) t a ≡ with_last_commit (writes_at sh c) t a
noted_written sh c bits t n a s e w =
    ap (λ (x : ℕ). with_last_commit (first_with x (has bits)) t a) e
    ∙ noted_all sh.dirs bits t (writes_at sh c) a w (λ d q. writes_elsewhere sh c d s q)

pub whole_dropped : (c : Core) (h : Held) (a : List Tid) (b : Entries) → IsCore c → h.config ≡ c.cache.config
    → (maps h).held ≡ (maps c.cache).held → length a ≡ 64
    → IsCore (record c { cache = h; after = a; spilled = b })
whole_dropped c h a b s e f n = record {
  cache = e ∙ s.cache;
  awaited = awaits_same (maps c.cache) (maps h) c.awaited f s.awaited;
  after = n;
}

pub held_dropped : (t : ℕ) (sp : Spilled) (a b c : Cache) → a ≡ committed t b → b ≡ words_dropped sp c → a.held ≡ c.held
unfolding committed words_dropped
held_dropped t sp a b c e f = ap (λ (x : Cache). x.held) e ∙ ap (λ (x : Cache). x.held) f

pub noted_alone : (sh : Shape) (c : Cache) (sp : Spilled) (bits t n : ℕ) (a : ℕ → ℕ) → 0 < sh.dirs → n ≡ sh.dirs
    → has bits ≡ first_with sh.dirs (solo_writes_at sh c sp)
    → with_last_commit (first_with n (has bits)) t a ≡ with_last_commit (solo_writes_at sh c sp) t a
noted_alone sh c sp bits t n a s e w =
    ap (λ (x : ℕ). with_last_commit (first_with x (has bits)) t a) e
    ∙ noted_all sh.dirs bits t (solo_writes_at sh c sp) a w (λ d q. solo_writes_elsewhere sh c sp d s q)
