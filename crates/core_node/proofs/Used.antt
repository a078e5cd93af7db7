-- What a load that found its word leaves in the cache.
use Rattle.std.proofs.Common.{◌≡◌, ℕ, Bool, true, false, ◌&&◌, cond, is_some, if◌then◌else◌, refl}
use Rattle.rules_maps.specs.Cache.{Cache}
use Rattle.rules_maps.specs.CacheChange.{marked}
use Rattle.rules_tcc.specs.State.{CoreState}
use Rattle.spec_cache.specs.Look.{loaded}

pub loaded_valid : (w : ℕ) (b : Bool) (c : Cache) → is_some (c.value w) ≡ true → loaded w b c ≡ cond b (marked w c) c
unfolding loaded
loaded_valid w true c h = rw h refl
loaded_valid w false c h = refl

pub used_by : (b : Bool) (w : ℕ) (s : CoreState) → record s { cache = cond b (marked w s.cache) s.cache }
    ≡ (if b then record s { cache = marked w s.cache } else s)
used_by true w s = refl
used_by false w s = refl

held_cond : (b : Bool) (w : ℕ) (c : Cache) → (cond b (marked w c) c).held ≡ c.held
unfolding marked
held_cond true w c = refl
held_cond false w c = refl

pub held-loaded : (w : ℕ) (b : Bool) (c : Cache) → (loaded w b c).held ≡ c.held
unfolding loaded
held-loaded w b c = held_cond (b && is_some (c.value w)) w c
