-- How many useful events each core has: none or one of execution, and its useful evictions.
use Rattle.std.specs.Prelude.{ℕ, ◌≡◌, ◌<◌, List, map, length, get_or, is_some, if◌then◌else◌}
use Rattle.std.specs.List.{flat_map}
use Rattle.rules_maps.specs.Nodes.{Event, Exec, Evict}
use Rattle.rules_maps.specs.Shape.{Shape}
use Rattle.rules_maps.specs.Words.{those}
use Rattle.rules_program.specs.Program.{Program}
use Rattle.rules_tcc.specs.CoreExec.{core_exec}
use Rattle.rules_tcc.specs.Seen.{numbers}
use Rattle.rules_tcc.specs.State.{CoreState}
use Rattle.core_node.specs.Useful.{useful_evicts}

abbrev pub exec_count : Shape → Program → (core : ℕ) → CoreState → ℕ
exec_count sh p c s = if is_some (core_exec sh p c s) then 1 else 0

abbrev pub evict_count : Shape → Program → CoreState → ℕ
evict_count sh p s = length (useful_evicts sh p s)

-- the counts by core
pub record AreCounted (sh : Shape) (p : Program) (cores : ℕ → CoreState) (execs evicts : List ℕ) : Type 0 where
  pub exec_places : length execs ≡ sh.cores
  pub evict_places : length evicts ≡ sh.cores
  pub can_execute : (c : ℕ) → c < sh.cores → get_or execs c 0 ≡ exec_count sh p c (cores c)
  pub can_evict : (c : ℕ) → c < sh.cores → get_or evicts c 0 ≡ evict_count sh p (cores c)

-- the useful events of execution, by core
unfoldable pub exec_events : Shape → Program → (ℕ → CoreState) → List Event
exec_events sh p cores = map Exec (those (λ c. is_some (core_exec sh p c (cores c))) sh.cores)

-- the useful evictions, by core, set and way
unfoldable pub evict_events : Shape → Program → (ℕ → CoreState) → List Event
evict_events sh p cores = flat_map (λ c. map (λ q. Evict c q.0 q.1) (useful_evicts sh p (cores c))) (numbers sh.cores)
