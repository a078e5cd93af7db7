-- Evict: a way is emptied. Its dirty words go home, its modified words to the overflow buffer.
use Rattle.std.specs.Prelude.{ℕ, Bool, false, not, Option, Some, None, ◌==◌, ◌&&◌, ◌||◌, if◌then◌else◌}
use Rattle.rules_maps.specs.Shape.{Shape}
use Rattle.rules_maps.specs.Cache.{is_marked}
use Rattle.rules_maps.specs.CacheChange.{evicted}
use Rattle.rules_maps.specs.Spilled.{spill_line}
use Rattle.rules_tcc.specs.State.{CoreState, Awaited}
use Rattle.rules_tcc.specs.Sends.{write_back_line}
use Rattle.rules_tcc.specs.Attempt.{Out, moves, is_solo}

abbrev pub is_awaited : Option Awaited → ℕ → Bool
is_awaited None l = false
is_awaited (Some a) l = a.line == l

-- not enabled where the way holds no line, where its line is awaited, and where it is marked unless the core is alone
abbrev pub evict_line : Shape → (set way : ℕ) → CoreState → Option ℕ → Option Out
evict_line sh x y s None = None
evict_line sh x y s (Some l) =
    if is_awaited s.awaited l || (is_marked s.cache l && not (is_solo s.phase)) then None
    else Some (moves (record s { cache = evicted x y s.cache; spilled = spill_line l s.cache s.spilled }) (write_back_line sh s.cache l))

unfoldable pub core_evict : Shape → (set way : ℕ) → CoreState → Option Out
core_evict sh x y s = evict_line sh x y s (s.cache.at x y)
