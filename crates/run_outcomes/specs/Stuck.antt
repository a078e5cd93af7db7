-- States from which no end is reached any more.
use Rattle.std.specs.Prelude.{ℕ, ◌≡◌, ◌+◌, ◌<◌, Bool, true, false, List, [], ◌∷◌, ◌++◌, All, Contains, ◌⊎◌, IfSome, IsSomeAnd}
use Rattle.std.specs.Prelude.{if◌then◌else◌, length, slice_index_or, slice_set}
use Rattle.std.specs.List.{sum_by}
use Rattle.image_load.specs.Contents.{Contents, started}
use Rattle.run_outcomes.specs.Edges.{edge_at}
use Rattle.run_outcomes.specs.Explored.{state_at}
use Rattle.run_outcomes.specs.Outcomes.{HaveEnded}
use Rattle.run_outcomes.specs.Results.{IsEnd}
use Rattle.run_outcomes.specs.States.{machine_of}
use Rattle.run_outcomes.specs.declared.search.Edge.{Edge}
use Rattle.run_outcomes.specs.declared.states.Snapshot.{Snapshot}
use Rattle.run_outcomes.specs.declared.stuck.Marks.{Marks}
use Rattle.rv_code.specs.Machine.{program}
use Rattle.rules_program.specs.Plain.{Order, serial}

-- whichever transactions are executed from state k on, one after another, under whatever TIDs, not all cores have ended after them
abbrev pub CannotEnd : Contents → List Snapshot → (k : ℕ) → Type 0
CannotEnd l states k =
    (last : ℕ) (orders : List Order)
    → IfSome (serial l.settings.base (program (started l)) last orders (machine_of l (state_at states k)))
    (λ r. HaveEnded l.settings.cores r.0 → ⊥)

-- under TIDs above any one, some transactions lead from state k to an end of all cores
unfoldable pub CanEnd : Contents → List Snapshot → (k : ℕ) → Type 0
CanEnd l states k =
    (last : ℕ) → (orders : List Order)
    × IsSomeAnd (serial l.settings.base (program (started l)) last orders (machine_of l (state_at states k)))
    (λ r. HaveEnded l.settings.cores r.0)

abbrev pub IsMarked : Marks → (k : ℕ) → Type 0
IsMarked m k = slice_index_or m.marked k false ≡ true

-- a state that isn't marked yet is marked, and waits
abbrev pub marked_unless : Bool → Marks → (k : ℕ) → Marks
marked_unless true m k = m
marked_unless false m k = record { marked = slice_set m.marked k true; waiting = m.waiting ++ k ∷ [] }

unfoldable pub with_mark : Marks → (k : ℕ) → Marks
with_mark m k = marked_unless (slice_index_or m.marked k false) m k

-- each edge to state k comes from a marked state
abbrev pub IsSettled : List Edge → Marks → (k : ℕ) → Type 0
IsSettled edges m k = (i : ℕ) → i < length edges → (edge_at edges i).to ≡ k → IsMarked m (edge_at edges i).from

-- marks of states from which an end is reached: the ends among the first so many states, and where edges go to a marked state, they
-- come from marked ones too, but for the states that wait and for one more
pub record AreMarks (l : Contents) (states : List Snapshot) (edges : List Edge) (ends but : ℕ) (m : Marks) : Type 0 where
  pub sized : length m.marked ≡ length states
  pub ended : (k : ℕ) → k < ends → IsEnd (state_at states k) → IsMarked m k
  pub sound : (k : ℕ) → IsMarked m k → CanEnd l states k
  pub waits : All (λ k. (k < length states) × CanEnd l states k) m.waiting
  pub settled : (k : ℕ) → (k ≡ but → ⊥) → IsMarked m k → Contains m.waiting k ⊎ IsSettled edges m k

-- how many states are yet to be marked or wait
unfoldable pub left_over : Marks → ℕ
left_over m = sum_by (λ (marked : Bool). if marked then 0 else 1) m.marked + length m.waiting
