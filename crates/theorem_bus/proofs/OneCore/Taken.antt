-- A core that takes a packet, by itself.
use Rattle.std.specs.Prelude.{ℕ, ◌≡◌, Bool, true, false, not, ◌&&◌, Option, Some, None, is_some, if◌then◌else◌}
use Rattle.std.proofs.Common.{refl}
use Rattle.rules_maps.specs.Cache.{IsCache}
use Rattle.rules_maps.specs.CacheChange.{rolled_back}
use Rattle.rules_maps.specs.Shape.{Shape}
use Rattle.rules_tcc.specs.Attempt.{roll_back, is_solo}
use Rattle.rules_tcc.specs.State.{CoreState, Awaited, Running}
use Rattle.theorem_attempt.specs.Sound.{AwaitsHeld}
use Rattle.theorem_attempt.proofs.Lemmas.{rolled-sound}
use Rattle.theorem_bounds.proofs.Lemmas.{rolled}
use Rattle.rules_bus.specs.Take.{reads_some, packet_invalidated, packet_taken}
use Rattle.theorem_bus.proofs.OneCore.Fine.{Fine}
use Rattle.theorem_bus.proofs.OneCore.Did.{LineSet}

-- the attempt begins anew, where it does
abbrev pub again : Bool → CoreState → CoreState
again b s = if b then record (roll_back s) { phase = Running } else s

dropped-fine : (sh : Shape) (M : LineSet) (n : ℕ) (f : ℕ → Option ℕ) (s : CoreState) → Fine sh M n s → Fine sh M n (packet_invalidated f s)
unfolding packet_invalidated
dropped-fine sh M n f s k = record {
  awaited = k.awaited;
  clean = k.clean;
  sound = record {
    cache = record {
      placed = c.placed;
      held = c.held;
      once = c.once;
      valued = λ v e. gone v (is_some (f v) && not (s.cache.modified v)) (c.valued v e);
      unread = c.unread;
      modified = λ v e. kept v (is_some (f v)) (s.cache.modified v) e (c.modified v e);
      dirty = λ v e. absurd (let i = k.clean v in cc);
      either = c.either;
      one_tag = c.one_tag;
    };
    awaits = awaits s.awaited k.awaited;
    alone = k.sound.alone;
    apart = k.sound.apart;
    unmarked = k.sound.unmarked;
  };
  attempt = k.attempt;
  frames = k.frames;
  spilled = k.spilled;
}
  where
    c : IsCache sh s.cache
    c = k.sound.cache

    gone : (v : ℕ) (b : Bool) → s.cache.value v ≡ None → (if b then None else s.cache.value v) ≡ None
    gone v true e = refl
    gone v false e = e

    kept : (v : ℕ) (b m : Bool) → m ≡ true → is_some (s.cache.value v) ≡ true
        → is_some (if b && not m then None else s.cache.value v) ≡ true
    kept v true true q e = e
    kept v false m q e = e
    kept v true false q e = absurd (cc)

    awaits : (o : Option Awaited) → o ≡ None → AwaitsHeld (record s.cache {
      value = λ v. if is_some (f v) && not (s.cache.modified v) then None else s.cache.value v;
    }) o
    awaits None e = tt
    awaits (Some a) e = absurd (cc)

-- a core that isn't alone begins anew
rolled-fine : (sh : Shape) (M : LineSet) (n : ℕ) (s : CoreState) → is_solo s.phase ≡ false → Fine sh M n s
    → Fine sh M n (record (roll_back s) { phase = Running })
unfolding roll_back rolled_back
rolled-fine sh M n s e k = record {
  awaited = k.awaited;
  clean = k.clean;
  sound = rolled-sound sh s Running s.spilled (k.sound.alone e) k.sound;
  attempt = rolled n s;
  frames = k.frames;
  spilled = k.spilled;
}

again-fine : (sh : Shape) (M : LineSet) (n : ℕ) (b : Bool) (s : CoreState) → is_solo s.phase ≡ false → Fine sh M n s
    → Fine sh M n (again b s)
again-fine sh M n true s e k = rolled-fine sh M n s e k
again-fine sh M n false s e k = k

pub taken-fine : (sh : Shape) (M : LineSet) (n : ℕ) (f : ℕ → Option ℕ) (s : CoreState) → is_solo s.phase ≡ false → Fine sh M n s
    → Fine sh M n (packet_taken sh f s)
unfolding packet_taken
taken-fine sh M n f s e k = dropped-fine sh M n f _ (again-fine sh M n (reads_some sh f s.cache) s e k)
