-- Logs that were kept apart, and the one schedule that they are together.
use Rattle.std.specs.Prelude.{ℕ, ◌<◌, ◌≡◌, Bool, true, List, [], ◌∷◌, filter, slice_get, Some, IsSomeAnd, nat_lt, ◌==◌, ◌&&◌, ◌||◌}
use Rattle.rules_program.specs.Program.{Local, Program}
use Rattle.rules_maps.specs.Nodes.{Node, Event, Exec, Evict, Deliver, node_eq}
use Rattle.rules_maps.specs.Shape.{Shape}
use Rattle.rules_tcc.specs.State.{World, start}
use Rattle.rules_tcc.specs.Step.{run, is_node}
use Rattle.rules_tcc.specs.Useful.{node_before}
use Rattle.rules_tcc.specs.Local.{Entry, Side, at_node, state_at, side_start, local}

-- P of each entry
abbrev pub Each : (Entry → Type 0) → List Entry → Type 0
Each P [] = Unit {0}
Each P (e ∷ es) = P e × Each P es

-- the message that an entry stores under a name is the one that the source's log sends under it, and came from an earlier stamp
abbrev pub StoresMessageOf : (Node → Side) → Entry → Event → Type 0
StoresMessageOf sides e (Deliver src dst k) =
    IsSomeAnd (slice_get ((sides src).sent dst) k) (λ mail. (e.msg ≡ Some mail.msg) × (e.msg_stamp ≡ mail.stamp) × (mail.stamp < e.stamp))
StoresMessageOf sides e (Exec c) = Unit {0}
StoresMessageOf sides e (Evict c x y) = Unit {0}

abbrev pub StoresItsMessage : (Node → Side) → Entry → Type 0
StoresItsMessage sides e = StoresMessageOf sides e e.event

-- along a log stamps rise
abbrev pub Rises : List Entry → Type 0
Rises [] = Unit {0}
Rises (e ∷ es) = Each (λ f. e.stamp < f.stamp) es × Rises es

-- Fitting logs, one for each node: each has a local run, stores what was sent, and its stamps rise
pub record Fit (sh : Shape) (p : Program) (w : World) (logs : Node → List Entry) (sides : Node → Side) : Type 0 where
  pub locals : (n : Node) → is_node sh n ≡ true → local sh p n (logs n) (side_start (state_at w n)) ≡ Some (sides n)
  pub stored : (n : Node) → is_node sh n ≡ true → Each (StoresItsMessage sides) (logs n)
  pub rises : (n : Node) → is_node sh n ≡ true → Rises (logs n)

abbrev pub is_at : Node → Entry → Bool
is_at n e = node_eq (at_node e.event) n

-- by stamp, and then by node
abbrev pub entry_before : Entry → Entry → Bool
entry_before e f = nat_lt e.stamp f.stamp || (e.stamp == f.stamp && node_before (at_node e.event) (at_node f.event))

abbrev pub Sorted : List Entry → Type 0
Sorted [] = Unit {0}
Sorted (e ∷ es) = Each (λ f. entry_before e f ≡ true) es × Sorted es

-- all entries of the logs, sorted
pub record IsMerged (sh : Shape) (logs : Node → List Entry) (es : List Entry) : Type 0 where
  pub parts : (n : Node) → is_node sh n ≡ true → filter (is_at n) es ≡ logs n
  pub nodes : Each (λ e. is_node sh (at_node e.event) ≡ true) es
  pub sorted : Sorted es

abbrev pub events : List Entry → List Event
events [] = []
events (e ∷ es) = e.event ∷ events es

-- the merge of fitting logs is a run, and each node ends as its own log leaves it
abbrev pub MergedRuns : Type 0
MergedRuns = (sh : Shape) (p : Program) (entries : ℕ → Local) (ram : ℕ → ℕ) (logs : Node → List Entry) (sides : Node → Side)
    (es : List Entry) →
    Fit sh p (start entries ram) logs sides → IsMerged sh logs es →
    IsSomeAnd (run sh p (start entries ram) (events es)) (λ h. (n : Node) → is_node sh n ≡ true → state_at h.world n ≡ (sides n).state)
