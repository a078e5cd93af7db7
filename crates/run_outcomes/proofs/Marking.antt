-- Marks of states from which an end is reached, as they are made one after another.
use Rattle.std.proofs.Common.{ℕ, ◌≡◌, ◌+◌, ◌<◌, ◌≤◌, Bool, true, false, List, [], ◌∷◌, ◌++◌, All, Contains, inl, inr, refl, sym, ◌∙◌}
use Rattle.std.proofs.Common.{Option, Some, None, IfSome}
use Rattle.std.proofs.Common.{ap, subst, length, length-append, length-set, slice_index_or, slice_set, map}
use Rattle.std.proofs.Common.{slice_index, if◌then◌else◌, arith}
use Rattle.std.proofs.lemmas.Bool.{false≢true}
use Rattle.std.proofs.lemmas.Bool.Decides.{eqb_tells}
use Rattle.std.proofs.lemmas.Grind.{common_steps}
use Rattle.std.proofs.lemmas.List.{get_or-map, length-map}
use Rattle.std.proofs.lemmas.List.Elements.{All-get_or, All-nil, All-push, Contains-push, Contains-append_left, Contains-push_cases}
use Rattle.std.proofs.lemmas.List.Sums.{sum_by-set}
use Rattle.std.specs.List.{sum_by}
use Rattle.image_load.specs.Contents.{Contents, started}
use Rattle.run_outcomes.proofs.Added.{sized-at}
use Rattle.run_outcomes.proofs.Alls.{All-front, All-last}
use Rattle.run_outcomes.proofs.Ends.{source-can, can-not-cannot, ends-have}
use Rattle.run_outcomes.specs.Edges.{AreAllEdges, AreEdges, IsEdge, edge_at, no_edge}
use Rattle.run_outcomes.specs.Explored.{AreFound, state_at}
use Rattle.run_outcomes.specs.Outcomes.{HaveEnded}
use Rattle.run_outcomes.specs.Results.{IsEnd}
use Rattle.run_outcomes.specs.States.{machine_of}
use Rattle.run_outcomes.specs.Stuck.{AreMarks, CanEnd, CannotEnd, IsMarked, left_over, marked_unless, with_mark}
use Rattle.run_outcomes.specs.declared.search.Edge.{Edge}
use Rattle.run_outcomes.specs.declared.states.Snapshot.{Snapshot}
use Rattle.run_outcomes.specs.declared.stuck.Marks.{Marks}
use Rattle.rv_code.specs.Machine.{program}
use Rattle.tcc_base.specs.declared.access.Commit.{Commit}
use Rattle.rules_program.specs.Plain.{Plain, serial}

set-there : (xs : List Bool) (k : ℕ) → k < length xs → slice_index_or (slice_set xs k true) k false ≡ true
set-there xs k lt = grind (arith, common_steps)

set-elsewhere : (xs : List Bool) (k j : ℕ) → (j ≡ k → ⊥) → slice_index_or (slice_set xs k true) j false ≡ slice_index_or xs j false
set-elsewhere xs k j ne = grind (arith, common_steps)

-- what a mark that is new, or isn't, keeps
pub record IsMarkMore (l : Contents) (states : List Snapshot) (edges : List Edge) (ends but k : ℕ) (old new : Marks) : Type 0 where
  pub marks : AreMarks l states edges ends but new
  pub here : IsMarked new k
  pub kept : (j : ℕ) → IsMarked old j → IsMarked new j
  pub fewer : left_over new ≤ left_over old

set-kept : (xs : List Bool) (k j : ℕ) → k < length xs → slice_index_or xs j false ≡ true
    → slice_index_or (slice_set xs k true) j false ≡ true
set-kept xs k j lt h =
    elim (eqb_tells j k) [
      | inl e ↦ subst (λ i. slice_index_or (slice_set xs k true) i false ≡ true) (sym e.1) (set-there xs k lt)
      | inr e ↦ set-elsewhere xs k j e.1 ∙ h
    ]

fewer-left : (xs : List Bool) (waiting : List ℕ) (k : ℕ) → k < length xs → slice_index_or xs k false ≡ false
    → left_over (record { marked = slice_set xs k true; waiting = waiting ++ k ∷ [] })
    ≤ left_over (record { marked = xs; waiting = waiting })
unfolding left_over
fewer-left xs waiting k lt no' =
    let f : Bool → ℕ = λ marked. if marked then 0 else 1 in
    let sum : sum_by f (slice_set xs k true) + f (slice_index_or xs k false) ≡ sum_by f xs + f true = sum_by-set f xs k true false lt in
    let one : f (slice_index_or xs k false) ≡ 1 = ap f no' in
    let len : length (waiting ++ k ∷ []) ≡ length waiting + 1 = length-append waiting (k ∷ []) in
    omega (arith, sum, one, len)

more : (l : Contents) (states : List Snapshot) (edges : List Edge) (ends but k : ℕ) (m : Marks) (b : Bool)
    → slice_index_or m.marked k false ≡ b → AreMarks l states edges ends but m → k < length states → CanEnd l states k
    → IsMarkMore l states edges ends but k m (marked_unless b m k)
more l states edges ends but k m true is h lt can = record { marks = h; here = is; kept = λ j there. there; fewer = omega arith }
more l states edges ends but k m false is h lt can =
    let below : k < length m.marked = rw h.sized lt in
    let marked = slice_set m.marked k true in
    record {
      marks = record {
        sized = length-set m.marked k true ∙ h.sized;
        ended = λ j early end. set-kept m.marked k j below (h.ended j early end);
        sound = λ j there. elim (eqb_tells j k) [
          | inl e ↦ subst (CanEnd l states) (sym e.1) can
          | inr e ↦ h.sound j (sym (set-elsewhere m.marked k j e.1) ∙ there)
        ];
        waits = All-push (λ j. (j < length states) × CanEnd l states j) m.waiting k h.waits (lt, can);
        settled = λ j other there. elim (eqb_tells j k) [
          | inl e ↦ inl (subst (Contains (m.waiting ++ k ∷ [])) (sym e.1) (Contains-push m.waiting k))
          | inr e ↦ elim (h.settled j other (sym (set-elsewhere m.marked k j e.1) ∙ there)) [
            | inl waits ↦ inl (Contains-append_left m.waiting (k ∷ []) j waits)
            | inr done ↦ inr (λ i inside to. set-kept m.marked k (edge_at edges i).from below (done i inside to))
          ]
        ];
      };
      here = set-there m.marked k below;
      kept = λ j there. set-kept m.marked k j below there;
      fewer = fewer-left m.marked m.waiting k below is;
    }

pub mark-more : (l : Contents) (states : List Snapshot) (edges : List Edge) (ends but k : ℕ) (old new : Marks) → new ≡ with_mark old k
    → AreMarks l states edges ends but old → k < length states → CanEnd l states k → IsMarkMore l states edges ends but k old new
unfolding with_mark
mark-more l states edges ends but k old new is h lt can =
    subst (IsMarkMore l states edges ends but k old) (sym is)
    (more l states edges ends but k old (slice_index_or old.marked k false) refl h lt can)

-- the state from which an edge leads to one from which an end is reached is marked
pub source-more : (l : Contents) (states : List Snapshot) (edges : List Edge) (ends to i from : ℕ) (old new : Marks)
    → AreEdges l states edges → AreMarks l states edges ends to old → CanEnd l states to → i < length edges
    → (edge_at edges i).to ≡ to → from ≡ (edge_at edges i).from → new ≡ with_mark old from
    → IsMarkMore l states edges ends to (edge_at edges i).from old new
source-more l states edges ends to i from old new right h can lt leads is marked =
    let edge = All-get_or (IsEdge l states) edges i no_edge lt right in
    let source : CanEnd l states (edge_at edges i).from =
    source-can l states (edge_at edges i) edge (subst (CanEnd l states) (sym leads) can) in
    mark-more l states edges ends to (edge_at edges i).from old new (marked ∙ ap (with_mark old) is) h edge.inside.0 source

pub source-inside : (l : Contents) (states : List Snapshot) (edges : List Edge) (ends but i : ℕ) (m : Marks) → AreEdges l states edges
    → AreMarks l states edges ends but m → i < length edges → (edge_at edges i).from < length m.marked
source-inside l states edges ends but i m right h lt =
    let edge = All-get_or (IsEdge l states) edges i no_edge lt right in
    subst (λ n. (edge_at edges i).from < n) (sym h.sized) edge.inside.0

-- nothing is marked
pub marks-none : (l : Contents) (states : List Snapshot) (edges : List Edge) (but : ℕ) (m : Marks) → length m.marked ≡ length states
    → ((k : ℕ) → slice_index_or m.marked k false ≡ false) → m.waiting ≡ [] → AreMarks l states edges 0 but m
marks-none l states edges but m sized none waiting = record {
  sized = sized;
  ended = λ k lt. absurd (omega (arith, lt));
  sound = λ k there. absurd (false≢true (sym (none k) ∙ there));
  waits = subst (All (λ k. (k < length states) × CanEnd l states k)) (sym waiting) (All-nil (λ k. (k < length states) × CanEnd l states k));
  settled = λ k other there. absurd (false≢true (sym (none k) ∙ there));
}

-- one more of the first states, which is an end and marked, or none
pub ends-more : (l : Contents) (states : List Snapshot) (edges : List Edge) (ends but : ℕ) (m : Marks)
    → AreMarks l states edges ends but m → (IsEnd (state_at states ends) → IsMarked m ends) → AreMarks l states edges (ends + 1) but m
ends-more l states edges ends but m h last = record {
  sized = h.sized;
  ended = λ k lt end. elim (eqb_tells k ends) [
    | inl e ↦ subst (IsMarked m) (sym e.1) (last (subst (λ j. IsEnd (state_at states j)) e.1 end))
    | inr e ↦ h.ended k (omega (arith, lt, e.1)) end
  ];
  sound = h.sound;
  waits = h.waits;
  settled = h.settled;
}

-- a state that waits no longer is the one whose edges are yet to be followed
pub marks-taken : (l : Contents) (states : List Snapshot) (edges : List Edge) (ends but to : ℕ) (old new : Marks)
    → AreMarks l states edges ends but old → length states ≤ but → new.marked ≡ old.marked → old.waiting ≡ new.waiting ++ to ∷ []
    → AreMarks l states edges ends to new
marks-taken l states edges ends but to old new h beyond marked waiting =
    let same : (k : ℕ) → IsMarked new k → IsMarked old k = λ k there. subst (λ xs. slice_index_or xs k false ≡ true) marked there in
    let back : (k : ℕ) → IsMarked old k → IsMarked new k =
    λ k there. subst (λ xs. slice_index_or xs k false ≡ true) (sym marked) there in
    record {
      sized = ap length marked ∙ h.sized;
      ended = λ k lt end. back k (h.ended k lt end);
      sound = λ k there. h.sound k (same k there);
      waits = All-front (λ k. (k < length states) × CanEnd l states k) new.waiting (to ∷ [])
          (subst (All (λ k. (k < length states) × CanEnd l states k)) waiting h.waits);
      settled = λ k other there.
          let inside : (k ≡ but → ⊥) = λ e. past k (same k there) e in
          elim (h.settled k inside (same k there)) [
            | inl waits ↦ elim (Contains-push_cases new.waiting to k (subst (λ xs. Contains xs k) waiting waits)) [
              | inl still ↦ inl still
              | inr e ↦ absurd (other (sym e))
            ]
            | inr done ↦ inr (λ i lt e. back (edge_at edges i).from (done i lt e))
          ];
    }
  where
    beyond-unmarked : (xs : List Bool) (k : ℕ) → length xs ≤ k → slice_index_or xs k false ≡ false
    beyond-unmarked xs k le = grind (arith, common_steps)

    past : (k : ℕ) → IsMarked old k → k ≡ but → ⊥
    past k there e =
        let out : length old.marked ≤ k = omega (arith, h.sized, beyond, e) in
        false≢true (sym (beyond-unmarked old.marked k out) ∙ there)

pub taken-can : (l : Contents) (states : List Snapshot) (edges : List Edge) (ends but to : ℕ) (m : Marks) (waiting : List ℕ)
    → AreMarks l states edges ends but m → m.waiting ≡ waiting ++ to ∷ [] → CanEnd l states to
taken-can l states edges ends but to m waiting h is =
    (All-last (λ k. (k < length states) × CanEnd l states k) waiting to
    (subst (All (λ k. (k < length states) × CanEnd l states k)) is h.waits)).1

-- the states to which edges lead
abbrev pub targets : List Edge → List ℕ
targets edges = map (λ e. e.to) edges

pub target-at : (edges : List Edge) (i : ℕ) → i < length edges → slice_index (targets edges) i ≡ (edge_at edges i).to
target-at edges i lt = get_or-map (λ e. e.to) edges i no_edge 0 lt

-- a walk along the edges to a state has marked the states that they come from
pub marks-settled : (l : Contents) (states : List Snapshot) (edges : List Edge) (ends to but : ℕ) (m : Marks)
    → AreMarks l states edges ends to m
    → ((i : ℕ) → i < length (targets edges) → slice_index (targets edges) i ≡ to → IsMarked m (edge_at edges i).from)
    → AreMarks l states edges ends but m
marks-settled l states edges ends to but m h walked = record {
  sized = h.sized;
  ended = h.ended;
  sound = h.sound;
  waits = h.waits;
  settled = λ k other there. elim (eqb_tells k to) [
    | inl e ↦ inr (λ i lt is.
        let inside : i < length (targets edges) = subst (λ n. i < n) (sym (length-map edges (λ x. x.to))) lt in
        walked i inside (target-at edges i lt ∙ is ∙ e.1))
    | inr e ↦ h.settled k e.1 there
  ];
}

-- once no state waits, an edge to a marked state comes from a marked one
pub all-settled : (l : Contents) (states : List Snapshot) (edges : List Edge) (ends : ℕ) (m : Marks)
    → AreMarks l states edges ends (length states) m → m.waiting ≡ []
    → (i : ℕ) → i < length edges → (edge_at edges i).to < length states → IsMarked m (edge_at edges i).to
    → IsMarked m (edge_at edges i).from
all-settled l states edges ends m h none i lt inside there =
    let other : (edge_at edges i).to ≡ length states → ⊥ = λ e. absurd (omega (arith, e, inside)) in
    elim (h.settled (edge_at edges i).to other there) [
      | inl waits ↦ absurd (nothing (edge_at edges i).to (subst (λ xs. Contains xs (edge_at edges i).to) none waits))
      | inr done ↦ done i lt refl
    ]
  where
    nothing : (k : ℕ) → Contains [] k → ⊥
    nothing k h' = omega (arith, h'.1)

pub push-unmarked : (xs ys : List Bool) → ys ≡ xs ++ false ∷ [] → ((j : ℕ) → slice_index_or xs j false ≡ false)
    → (j : ℕ) → slice_index_or ys j false ≡ false
push-unmarked xs ys is none j = ap (λ zs. slice_index_or zs j false) is ∙ pushed
  where
    pushed : slice_index_or (xs ++ false ∷ []) j false ≡ false
    pushed = grind (arith, common_steps, none)

never : (l : Contents) (states : List Snapshot) (k : ℕ) (m : Marks) (x : Option (Plain × List Commit))
    → slice_index_or m.marked k false ≡ false → IfSome x (λ r. HaveEnded l.settings.cores r.0 → IsMarked m k)
    → IfSome x (λ r. HaveEnded l.settings.cores r.0 → ⊥)
never l states k m None unmarked h = tt
never l states k m (Some r) unmarked h = λ ended. false≢true (sym unmarked ∙ h ended)

-- where all edges are known and no state waits, a state that isn't marked cannot end, and one that is can
pub unmarked-cannot : (l : Contents) (states : List Snapshot) (edges : List Edge) (m : Marks) → AreFound l states
    → AreEdges l states edges → AreAllEdges l states edges → AreMarks l states edges (length states) (length states) m
    → m.waiting ≡ [] → (k : ℕ) → k < length states → slice_index_or m.marked k false ≡ false → CannotEnd l states k
unmarked-cannot l states edges m found right all h none k lt unmarked last orders =
    never l states k m (serial l.settings.base (program (started l)) last orders (machine_of l (state_at states k))) unmarked
    (ends-have l states edges (IsMarked m) (λ j below. sized-at l states j found below) all h.ended
    (λ i below there.
    all-settled l states edges (length states) m h none i below
    (All-get_or (IsEdge l states) edges i no_edge below right).inside.1 there)
    last orders k lt)

pub cannot-unmarked : (l : Contents) (states : List Snapshot) (edges : List Edge) (m : Marks)
    → AreMarks l states edges (length states) (length states) m → (k : ℕ) → k < length states → CannotEnd l states k
    → slice_index_or m.marked k false ≡ false
cannot-unmarked l states edges m h k lt cannot = go (slice_index_or m.marked k false) refl
  where
    go : (b : Bool) → slice_index_or m.marked k false ≡ b → b ≡ false
    go true e = absurd (can-not-cannot l states k (h.sound k e) cannot)
    go false e = refl

pub left-taken : (to : ℕ) (old new : Marks) → new.marked ≡ old.marked → old.waiting ≡ new.waiting ++ to ∷ []
    → left_over new + 1 ≡ left_over old
unfolding left_over
left-taken to old new marked waiting =
    let f : Bool → ℕ = λ b. if b then 0 else 1 in
    let sum : sum_by f new.marked ≡ sum_by f old.marked = ap (sum_by f) marked in
    let len : length old.waiting ≡ length new.waiting + 1 = ap length waiting ∙ length-append new.waiting (to ∷ []) in
    omega (arith, sum, len)
