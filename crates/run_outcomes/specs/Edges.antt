-- Edges: from which state a transaction leads to which state.
use Rattle.std.specs.Prelude.{ℕ, ◌≡◌, ◌<◌, List, [], ◌∷◌, ◌++◌, All, IfSome, IsSomeAnd, length, slice_index_or}
use Rattle.image_load.specs.Contents.{Contents, started}
use Rattle.run_outcomes.specs.Explored.{state_at}
use Rattle.run_outcomes.specs.States.{machine_of}
use Rattle.run_outcomes.specs.declared.search.Edge.{Edge}
use Rattle.run_outcomes.specs.declared.states.Place.{Place}
use Rattle.run_outcomes.specs.declared.states.Place.TheVariants.{Known, New, Full}
use Rattle.run_outcomes.specs.declared.states.Snapshot.{Snapshot}
use Rattle.rv_code.specs.Machine.{program}
use Rattle.rules_program.specs.Plain.{Plain, transaction}

abbrev pub no_edge : Edge
no_edge = record { from = 0; to = 0 }

abbrev pub edge_at : List Edge → ℕ → Edge
edge_at edges i = slice_index_or edges i no_edge

-- a transaction of a core leads from the one state to the other
pub record IsEdge (l : Contents) (states : List Snapshot) (e : Edge) : Type 0 where
  pub inside : (e.from < length states) × (e.to < length states)
  pub core : ℕ
  pub n : ℕ
  pub leads : IsSomeAnd (transaction l.settings.base (program (started l)) (machine_of l (state_at states e.from)) core n)
      (λ r. machine_of l (state_at states e.to) ≡ r.0)

abbrev pub AreEdges : Contents → List Snapshot → List Edge → Type 0
AreEdges l states edges = All (IsEdge l states) edges

-- an edge leads from state k to a state of this machine
pub record HasEdge (l : Contents) (states : List Snapshot) (edges : List Edge) (k : ℕ) (m : Plain) : Type 0 where
  pub edge : ℕ
  pub there : edge < length edges
  pub from : (edge_at edges edge).from ≡ k
  pub inside : (edge_at edges edge).to < length states
  pub to : machine_of l (state_at states (edge_at edges edge).to) ≡ m

-- whatever the next transaction of this core of this state is, an edge tells to which state it leads
unfoldable pub IsEdgedAt : Contents → List Snapshot → List Edge → (k core : ℕ) → Type 0
IsEdgedAt l states edges k core =
    (n : ℕ) → IfSome (transaction l.settings.base (program (started l)) (machine_of l (state_at states k)) core n)
    (λ r. HasEdge l states edges k r.0)

-- and so for each core of each state
abbrev pub AreAllEdges : Contents → List Snapshot → List Edge → Type 0
AreAllEdges l states edges = (k : ℕ) → k < length states → (core : ℕ) → IsEdgedAt l states edges k core

-- the edge to a state is noted where there is room for the state
abbrev pub IsJoined : (old new : List Edge) → Place → (from : ℕ) → Type 0
IsJoined old new (Known to) from = new ≡ old ++ record { from = from; to = to } ∷ []
IsJoined old new (New to) from = new ≡ old ++ record { from = from; to = to } ∷ []
IsJoined old new Full from = new ≡ old
