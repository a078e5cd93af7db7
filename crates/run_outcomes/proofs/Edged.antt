-- Edges between the states, as they are found.
use Rattle.std.proofs.Common.{ℕ, ◌≡◌, ◌+◌, ◌<◌, ◌≤◌, List, [], ◌∷◌, ◌++◌, Option, Some, None, IfSome, Contains, refl, sym, ◌∙◌}
use Rattle.std.proofs.Common.{ap, subst, length, length-append, inl, inr, arith}
use Rattle.std.proofs.lemmas.Bool.{cases_lt}
use Rattle.std.proofs.lemmas.Grind.{common_steps}
use Rattle.std.proofs.lemmas.List.{get_or_default}
use Rattle.std.proofs.lemmas.List.Elements.{All-push, All-weaker, Contains-get_or}
use Rattle.image_load.specs.Contents.{Contents, started}
use Rattle.run_outcomes.proofs.Added.{sized-at}
use Rattle.run_outcomes.proofs.Once.{by-one}
use Rattle.run_outcomes.proofs.Reach.{leads-transaction, no-transaction, beyond-halted, state-kept, contains-map}
use Rattle.run_outcomes.specs.Edges.{AreEdges, HasEdge, IsEdge, IsEdgedAt, IsJoined, edge_at}
use Rattle.run_outcomes.specs.Explored.{AreFound, IsFollowedAt, IsGrown, machines, state_at, no_snapshot}
use Rattle.run_outcomes.specs.Next.{IsNext}
use Rattle.run_outcomes.specs.Serially.{IsFollowed}
use Rattle.run_outcomes.specs.States.{machine_of, core_in, after_core, IsPlaced}
use Rattle.run_outcomes.specs.declared.next.Next.TheVariants.{Leads}
use Rattle.run_outcomes.specs.declared.search.Edge.{Edge}
use Rattle.run_outcomes.specs.declared.states.Place.{Place}
use Rattle.run_outcomes.specs.declared.states.Place.TheVariants.{Known, New, Full}
use Rattle.run_outcomes.specs.declared.states.Snapshot.{Snapshot}
use Rattle.rv_code.specs.Machine.{program}
use Rattle.rv_plain.specs.declared.plain.CoreState.{CoreState}
use Rattle.tcc_base.specs.declared.access.CoreEnd.TheVariants.{Run}
use Rattle.rules_program.specs.Plain.{Plain, Attempt, transaction}

edge-kept : (edges more : List Edge) (i : ℕ) → i < length edges → edge_at (edges ++ more) i ≡ edge_at edges i
edge-kept edges more i lt = grind (arith, common_steps)

edge-last : (edges : List Edge) (e : Edge) → edge_at (edges ++ e ∷ []) (length edges) ≡ e
edge-last edges e = grind (arith, common_steps)

state-last : (states : List Snapshot) (s : Snapshot) (k : ℕ) → k ≡ length states → state_at (states ++ s ∷ []) k ≡ s
state-last states s k e = grind (arith, common_steps)

-- an edge stays one as states are found
is-edge-grown : (l : Contents) (old new : List Snapshot) (e : Edge) → IsGrown old new → IsEdge l old e → IsEdge l new e
is-edge-grown l old new e g h =
    let len : length new ≡ length old + length g.0 = ap length g.1 ∙ length-append old g.0 in
    let from : e.from < length new = omega (arith, len, h.inside.0) in
    let to : e.to < length new = omega (arith, len, h.inside.1) in
    let kept : (k : ℕ) → k < length old → state_at new k ≡ state_at old k =
    λ k lt. ap (λ x. state_at x k) g.1 ∙ state-kept old g.0 k lt in
    record {
      inside = (from, to);
      core = h.core;
      n = h.n;
      leads = rw (kept e.from h.inside.0, kept e.to h.inside.1) h.leads;
    }

-- the last edge leads to this machine
last-edge : (l : Contents) (states : List Snapshot) (edges joined : List Edge) (k to : ℕ) (m : Plain)
    → joined ≡ edges ++ record { from = k; to = to } ∷ [] → to < length states → machine_of l (state_at states to) ≡ m
    → HasEdge l states joined k m
last-edge l states edges joined k to m is inside same =
    let e : Edge = record { from = k; to = to } in
    let len : length joined ≡ length edges + 1 = ap length is ∙ length-append edges (e ∷ []) in
    let last : edge_at joined (length edges) ≡ e = ap (λ es. edge_at es (length edges)) is ∙ edge-last edges e in
    record {
      edge = length edges;
      there = omega (arith, len);
      from = ap (λ x. x.from) last;
      inside = rw last inside;
      to = ap (λ x. machine_of l (state_at states x.to)) last ∙ same;
    }

nothing-more : (xs : List Snapshot) → xs ++ [] ≡ xs
nothing-more xs = grind (arith, common_steps)

pub placed-grown : (old new : List Snapshot) (s : Snapshot) (limit : ℕ) (place : Place) → IsPlaced old new s limit place → IsGrown old new
placed-grown old new s limit (Known number) h = ([], h.0 ∙ sym (nothing-more old))
placed-grown old new s limit (New number) h = (s ∷ [], h.0)
placed-grown old new s limit Full h = ([], h.0 ∙ sym (nothing-more old))

edged-by : (l : Contents) (states : List Snapshot) (edges : List Edge) (k c n : ℕ) (r : Plain × Attempt)
    → transaction l.settings.base (program (started l)) (machine_of l (state_at states k)) c n ≡ Some r
    → HasEdge l states edges k r.0 → IsEdgedAt l states edges k c
unfolding IsEdgedAt
edged-by l states edges k c n r is has =
    by-one l.settings.base (program (started l)) (machine_of l (state_at states k)) c n r (HasEdge l states edges k) is has

pub added-edged : (l : Contents) (old new : List Snapshot) (edges joined : List Edge) (k c limit longest n : ℕ) (after : CoreState)
    (left : List (ℕ × ℕ)) (place : Place) → AreFound l old → k < length old → c < l.settings.cores
    → IsNext l (core_in (state_at old k) c) (state_at old k).changes longest (Leads n after left)
    → IsPlaced old new (after_core (state_at old k) c after left) limit place → IsJoined edges joined place k
    → (place ≡ Full → ⊥) → IsEdgedAt l new joined k c
added-edged l old new edges joined k c limit longest n after left Full found lt core next placed is room = absurd (room refl)
added-edged l old new edges joined k c limit longest n after left (Known to) found lt core next placed is room =
    let s = state_at old k in
    let s' = after_core s c after left in
    let inside : c < length s.cores = rw (sized-at l old k found lt) core in
    let below : to < length new = rw placed.0 placed.1.0 in
    let there : state_at new to ≡ s' =
    ap (λ x. state_at x to) placed.0 ∙ get_or_default old to no_snapshot s' placed.1.0 ∙ placed.1.1 in
    edged-by l new joined k c n (machine_of l s', next.2.attempt)
    (subst (λ x. transaction l.settings.base (program (started l)) (machine_of l x) c n ≡ Some (machine_of l s', next.2.attempt))
    (sym (ap (λ x. state_at x k) placed.0)) (leads-transaction l s c n after left inside next.2))
    (last-edge l new edges joined k to (machine_of l s') is below (ap (machine_of l) there))
added-edged l old new edges joined k c limit longest n after left (New to) found lt core next placed is room =
    let s = state_at old k in
    let s' = after_core s c after left in
    let inside : c < length s.cores = rw (sized-at l old k found lt) core in
    let len : length new ≡ length old + 1 = ap length placed.0 ∙ length-append old (s' ∷ []) in
    let below : to < length new = omega (arith, len, placed.3) in
    let there : state_at new to ≡ s' = ap (λ x. state_at x to) placed.0 ∙ state-last old s' to placed.3 in
    let same : state_at new k ≡ s = ap (λ x. state_at x k) placed.0 ∙ state-kept old (s' ∷ []) k lt in
    edged-by l new joined k c n (machine_of l s', next.2.attempt)
    (subst (λ x. transaction l.settings.base (program (started l)) (machine_of l x) c n ≡ Some (machine_of l s', next.2.attempt))
    (sym same) (leads-transaction l s c n after left inside next.2))
    (last-edge l new edges joined k to (machine_of l s') is below (ap (machine_of l) there))

-- the edges to the states, once one more is noted
pub added-edges : (l : Contents) (old new : List Snapshot) (edges joined : List Edge) (k c limit longest n : ℕ) (after : CoreState)
    (left : List (ℕ × ℕ)) (place : Place) → AreFound l old → k < length old → c < l.settings.cores
    → IsNext l (core_in (state_at old k) c) (state_at old k).changes longest (Leads n after left)
    → IsPlaced old new (after_core (state_at old k) c after left) limit place → IsJoined edges joined place k
    → AreEdges l old edges → AreEdges l new joined
added-edges l old new edges joined k c limit longest n after left Full found lt core next placed is all =
    rw (placed.0, is) all
added-edges l old new edges joined k c limit longest n after left (Known to) found lt core next placed is all =
    let s = state_at old k in
    let s' = after_core s c after left in
    let inside : c < length s.cores = rw (sized-at l old k found lt) core in
    let there : state_at old to ≡ s' = get_or_default old to no_snapshot s' placed.1.0 ∙ placed.1.1 in
    rw (placed.0, is)
    (All-push (IsEdge l old) edges (record { from = k; to = to }) all (record {
      inside = (lt, placed.1.0);
      core = c;
      n = n;
      leads = rw (leads-transaction l s c n after left inside next.2) (ap (machine_of l) there);
    }))
added-edges l old new edges joined k c limit longest n after left (New to) found lt core next placed is all =
    let s = state_at old k in
    let s' = after_core s c after left in
    let inside : c < length s.cores = rw (sized-at l old k found lt) core in
    let g : IsGrown old new = (s' ∷ [], placed.0) in
    let len : length new ≡ length old + 1 = ap length placed.0 ∙ length-append old (s' ∷ []) in
    let from : k < length new = omega (arith, len, lt) in
    let below : to < length new = omega (arith, len, placed.3) in
    let there : state_at new to ≡ s' = ap (λ x. state_at x to) placed.0 ∙ state-last old s' to placed.3 in
    let same : state_at new k ≡ s = ap (λ x. state_at x k) placed.0 ∙ state-kept old (s' ∷ []) k lt in
    subst (AreEdges l new) (sym is)
    (All-push (IsEdge l new) edges (record { from = k; to = to })
    (All-weaker (IsEdge l old) (IsEdge l new) (λ e h. is-edge-grown l old new e g h) edges all)
    (record {
      inside = (from, below);
      core = c;
      n = n;
      leads = rw (same, leads-transaction l s c n after left inside next.2) (ap (machine_of l) there);
    }))

pub joined-grown : (old new : List Edge) (place : Place) (from : ℕ) → IsJoined old new place from → IsGrown old new
joined-grown old new (Known to) from h = (record { from = from; to = to } ∷ [], h)
joined-grown old new (New to) from h = (record { from = from; to = to } ∷ [], h)
joined-grown old new Full from h = ([], h ∙ sym (nothing old))
  where
    nothing : (xs : List Edge) → xs ++ [] ≡ xs
    nothing xs = grind (arith, common_steps)

pub grown-nothing : {X : Type 0} (xs : List X) → IsGrown xs xs
grown-nothing xs = ([], sym (grind (arith, common_steps)))

-- a core that has halted has no next transaction
pub edged-stopped : (l : Contents) (states : List Snapshot) (edges : List Edge) (k c : ℕ)
    → ((core_in (state_at states k) c).ended ≡ Run → ⊥) → IsEdgedAt l states edges k c
unfolding IsEdgedAt
edged-stopped l states edges k c h n = rw (no-transaction l (state_at states k) c n h) tt

pub edged-beyond : (l : Contents) (states : List Snapshot) (edges : List Edge) (k core : ℕ) → AreFound l states → k < length states
    → l.settings.cores ≤ core → IsEdgedAt l states edges k core
edged-beyond l states edges k core found lt beyond =
    edged-stopped l states edges k core (beyond-halted l states k core found lt beyond)

has-grown : (l : Contents) (old new : List Snapshot) (edges joined : List Edge) (k : ℕ) (m : Plain) → IsGrown old new
    → IsGrown edges joined → HasEdge l old edges k m → HasEdge l new joined k m
has-grown l old new edges joined k m g j h =
    let states : length new ≡ length old + length g.0 = ap length g.1 ∙ length-append old g.0 in
    let count : length joined ≡ length edges + length j.0 = ap length j.1 ∙ length-append edges j.0 in
    let same : edge_at joined h.edge ≡ edge_at edges h.edge = ap (λ es. edge_at es h.edge) j.1 ∙ edge-kept edges j.0 h.edge h.there in
    let to = (edge_at edges h.edge).to in
    let kept : state_at new to ≡ state_at old to = ap (λ x. state_at x to) g.1 ∙ state-kept old g.0 to h.inside in
    let below : to < length new = omega (arith, states, h.inside) in
    record {
      edge = h.edge;
      there = omega (arith, count, h.there);
      from = ap (λ e. e.from) same ∙ h.from;
      inside = subst (λ e. e.to < length new) (sym same) below;
      to = ap (λ e. machine_of l (state_at new e.to)) same ∙ ap (machine_of l) kept ∙ h.to;
    }

pub edged-grown : (l : Contents) (old new : List Snapshot) (edges joined : List Edge) (k core : ℕ) → IsGrown old new
    → IsGrown edges joined → k < length old → IsEdgedAt l old edges k core → IsEdgedAt l new joined k core
unfolding IsEdgedAt
edged-grown l old new edges joined k core g j lt h n =
    let same : state_at new k ≡ state_at old k = ap (λ x. state_at x k) g.1 ∙ state-kept old g.0 k lt in
    subst (λ s. IfSome (transaction l.settings.base (program (started l)) (machine_of l s) core n)
    (λ r. HasEdge l new joined k r.0)) (sym same)
    (go (transaction l.settings.base (program (started l)) (machine_of l (state_at old k)) core n) (h n))
  where
    go : (x : Option (Plain × Attempt)) → IfSome x (λ r. HasEdge l old edges k r.0) → IfSome x (λ r. HasEdge l new joined k r.0)
    go None e = tt
    go (Some r) e = has-grown l old new edges joined k r.0 g j e

pub edged-step : (l : Contents) (old new : List Snapshot) (edges joined : List Edge) (k n : ℕ) → IsGrown old new
    → IsGrown edges joined → k < length old → ((core : ℕ) → core < n → IsEdgedAt l old edges k core)
    → IsEdgedAt l new joined k n → (core : ℕ) → core < n + 1 → IsEdgedAt l new joined k core
edged-step l old new edges joined k n g j lt each last core below =
    elim (cases_lt core n) [
      | inl h ↦ edged-grown l old new edges joined k core g j lt (each core h)
      | inr h ↦ let e : n ≡ core = omega arith in subst (IsEdgedAt l new joined k) e last
    ]

pub expanded-step : (l : Contents) (old new : List Snapshot) (edges joined : List Edge) (n : ℕ) → IsGrown old new
    → IsGrown edges joined → n < length old → ((k : ℕ) → k < n → (core : ℕ) → IsEdgedAt l old edges k core)
    → ((core : ℕ) → IsEdgedAt l new joined n core) → (k : ℕ) → k < n + 1 → (core : ℕ) → IsEdgedAt l new joined k core
expanded-step l old new edges joined n g j lt each last k below core =
    elim (cases_lt k n) [
      | inl h ↦
          let there : k < length old = omega arith in
          edged-grown l old new edges joined k core g j there (each k h core)
      | inr h ↦ let e : n ≡ k = omega arith in subst (λ i. IsEdgedAt l new joined i core) e (last core)
    ]

-- where an edge tells of each next transaction to which state it leads, it leads to one of the states
pub edged-followed : (l : Contents) (states : List Snapshot) (edges : List Edge) (k core : ℕ) → IsEdgedAt l states edges k core
    → IsFollowedAt l states k core
unfolding IsEdgedAt IsFollowed
edged-followed l states edges k core h n =
    go (transaction l.settings.base (program (started l)) (machine_of l (state_at states k)) core n) (h n)
  where
    go : (x : Option (Plain × Attempt)) → IfSome x (λ r. HasEdge l states edges k r.0)
        → IfSome x (λ r. Contains (machines l states) r.0)
    go None e = tt
    go (Some r) e =
        let to = (edge_at edges e.edge).to in
        subst (Contains (machines l states)) e.to
        (contains-map (machine_of l) states (state_at states to) (Contains-get_or states to no_snapshot e.inside))
