-- What an eviction is, where it is enabled. The rule's body is walked here alone: what is proved of an eviction is proved of `emptied`.
use Rattle.std.proofs.Common.{◌≡◌, ℕ, Bool, true, false, not, ◌&&◌, ◌||◌, ◌⊎◌, inl, inr, Option, Some, None, refl}
use Rattle.std.specs.Prelude.{IfSome, if◌then◌else◌}
use Rattle.rules_maps.specs.Shape.{Shape}
use Rattle.rules_maps.specs.Cache.{is_marked}
use Rattle.rules_maps.specs.CacheChange.{evicted}
use Rattle.rules_maps.specs.Spilled.{spill_line}
use Rattle.rules_tcc.specs.State.{CoreState}
use Rattle.rules_tcc.specs.Sends.{write_back_line}
use Rattle.rules_tcc.specs.Attempt.{Out, moves, is_solo}
use Rattle.rules_tcc.specs.CoreEvict.{is_awaited, evict_line, core_evict}

-- way y of set x is emptied of a line
abbrev pub emptied : Shape → (x y line : ℕ) → CoreState → Out
emptied sh x y l s = moves (record s { cache = evicted x y s.cache; spilled = spill_line l s.cache s.spilled })
    (write_back_line sh s.cache l)

-- what holds where it is: the line is there and isn't awaited, and it is unmarked or the core is alone
pub each-evict : (sh : Shape) (x y : ℕ) (s : CoreState) (P : Out → Type 0)
    → ((l : ℕ) → s.cache.at x y ≡ Some l → is_awaited s.awaited l ≡ false → (is_marked s.cache l ≡ false) ⊎ (is_solo s.phase ≡ true)
    → P (emptied sh x y l s)) → IfSome (core_evict sh x y s) P
unfolding core_evict
each-evict sh x y s P k = go (s.cache.at x y) refl
  where
    kept : (l : ℕ) → s.cache.at x y ≡ Some l → (a m b : Bool) → is_awaited s.awaited l ≡ a → is_marked s.cache l ≡ m → is_solo s.phase ≡ b
        → IfSome (if a || (m && not b) then None else Some (emptied sh x y l s)) P
    kept l e false true true f g h = k l e f (inr h)
    kept l e false false b f g h = k l e f (inl g)
    kept l e false true false f g h = tt
    kept l e true m b f g h = tt

    go : (a : Option ℕ) → s.cache.at x y ≡ a → IfSome (evict_line sh x y s a) P
    go None e = tt
    go (Some l) e = kept l e (is_awaited s.awaited l) (is_marked s.cache l) (is_solo s.phase) refl refl refl
