-- The ports of all nodes while they are made: for one core after the other, and for each the nodes behind the cores.
use Rattle.std.specs.Prelude.{ℕ, ◌≡◌, ◌+◌, ◌-◌, ◌<◌, ◌==◌, nat_lt, List, length, slice_get, Some, if◌then◌else◌}
use Rattle.tcc_base.specs.Settings.{Settings}
use Rattle.rules_apart.specs.Fitting.{node_count}
use Rattle.apart_node.specs.Ports.{PortData, IsPortAt, IsUnused}
use Rattle.node_locks.specs.Places.{nth_node}

-- what the one sends comes to the other
pub record AreJoined (p q : PortData) : Type 0 where
  pub there : q.inlet.link ≡ p.outlet.link
  pub back : p.inlet.link ≡ q.outlet.link

-- how many ports the node of a place has, once those of c cores are made and k of the core behind them
abbrev pub ports_due : Settings → (c k i : ℕ) → ℕ
ports_due s c k i =
    if nat_lt i s.cores then (if nat_lt i c then s.dirs + 1 else if i == c then k else 0) else if nat_lt (i - s.cores) k then c + 1 else c

-- So far each port is the one of its place, nothing went through it, and it is joined to the one at its peer.
pub record AreJoinedTo (s : Settings) (c k : ℕ) (rooms : List (List PortData)) : Type 0 where
  pub count : length rooms ≡ node_count s
  pub due : (i : ℕ) (ps : List PortData) → slice_get rooms i ≡ Some ps → length ps ≡ ports_due s c k i
  pub at : (i j : ℕ) (ps : List PortData) (p : PortData) → slice_get rooms i ≡ Some ps → slice_get ps j ≡ Some p
      → IsPortAt s (nth_node s i) j p
  pub unused : (i j : ℕ) (ps : List PortData) (p : PortData) → slice_get rooms i ≡ Some ps → slice_get ps j ≡ Some p → IsUnused p
  pub joined : (i j : ℕ) (ps qs : List PortData) (p q : PortData) → i < s.cores → slice_get rooms i ≡ Some ps
      → slice_get rooms (s.cores + j) ≡ Some qs
      → slice_get ps j ≡ Some p → slice_get qs i ≡ Some q → AreJoined p q
