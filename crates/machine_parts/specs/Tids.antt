-- Which TIDs are with cores, or on their way to them.
use Rattle.std.specs.Prelude.{ℕ, ◌+◌, ◌≡◌, ◌≤◌, Bool, false, ◌==◌, List, [], ◌∷◌, Option, Some, None, nat_le}
use Rattle.tcc_base.specs.declared.access.Commit.{Commit}
use Rattle.tcc_base.specs.declared.names.Tid.{Tid}
use Rattle.rules_maps.specs.Nodes.{Node, Core, Vendor}
use Rattle.rules_maps.specs.Words.{num}
use Rattle.rules_tcc.specs.DirDeliver.{sum_below}
use Rattle.rules_tcc.specs.State.{CoreState, Link}
use Rattle.theorem_serial.specs.Count.{Grants, live}
use Rattle.theorem_serial.specs.Owners.{times}
use Rattle.theorem_serial.specs.Tids.{has_tid}

-- how often the TID is among these
unfoldable pub among : (tid : ℕ) → List ℕ → ℕ
among t [] = 0
among t (u ∷ us) = num (u == t) + among t us

abbrev pub is_own : Option Tid → (tid : ℕ) → Bool
is_own None t = false
is_own (Some u) t = u.0 == t

-- a TID is among the held ones, or committed, or still to be granted, and only once one of these
abbrev pub IsSingle : (held : List ℕ) → List Commit → (next : ℕ) → Type 0
IsSingle held cs next = (t : ℕ) → among t held + times t cs + num (nat_le next t) ≤ 1

-- one more is held, and it is still in one place
pub record IsNoted (old new : List ℕ) (cs : List Commit) (next tid : ℕ) : Type 0 where
  pub more : (t : ℕ) → among t new ≡ among t old + num (tid == t)
  pub single : IsSingle old cs next → IsSingle new cs next

-- those that a core has, or that are on their way to it
abbrev pub held_by : CoreState → (grants : Link) → (tid : ℕ) → ℕ
held_by s grants t = live (Grants t) grants + num (has_tid s.phase t)

-- in a machine of so many cores
abbrev pub AreSingle : (cores : ℕ) → (ℕ → CoreState) → (net : Node → Node → Link) → List Commit → (next : ℕ) → Type 0
AreSingle n cores net cs next = (t : ℕ)
    → sum_below (λ c. held_by (cores c) (net Vendor (Core c)) t) n + times t cs + num (nat_le next t) ≤ 1

-- they are noted, and are still in one place
pub record AreNoted (old new : List ℕ) (cs : List Commit) (next : ℕ) (count : ℕ → ℕ) : Type 0 where
  pub more : (t : ℕ) → among t new ≡ among t old + count t
  pub single : IsSingle old cs next → IsSingle new cs next

-- with those that are counted some TID is in two places
abbrev pub IsOver : (held : List ℕ) → List Commit → (next : ℕ) → (count : ℕ → ℕ) → Type 0
IsOver held cs next count = (t : ℕ) × (2 ≤ among t held + count t + times t cs + num (nat_le next t))
