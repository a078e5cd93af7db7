-- From which states an end of all cores is reached: backwards along the edges, and from no other.
use Rattle.std.proofs.Common.{ℕ, ◌≡◌, ◌+◌, ◌<◌, Bool, true, false, List, [], ◌∷◌, Option, Some, None, IfSome, IsSomeAnd, sym, subst}
use Rattle.std.proofs.Common.{length, nat_lt, if◌then◌else◌, arith}
use Rattle.std.proofs.lemmas.Bool.Decides.{nat_tests}
use Rattle.std.proofs.lemmas.List.Elements.{All-get_or}
use Rattle.image_load.specs.Contents.{Contents, started}
use Rattle.run_outcomes.proofs.Every.{ended-state}
use Rattle.run_outcomes.specs.Edges.{AreAllEdges, HasEdge, IsEdge, IsEdgedAt, edge_at}
use Rattle.run_outcomes.specs.Explored.{state_at}
use Rattle.run_outcomes.specs.Outcomes.{HaveEnded}
use Rattle.run_outcomes.specs.Results.{HasStopped, IsEnd}
use Rattle.run_outcomes.specs.States.{machine_of}
use Rattle.run_outcomes.specs.Stuck.{CanEnd, CannotEnd}
use Rattle.run_outcomes.specs.declared.search.Edge.{Edge}
use Rattle.run_outcomes.specs.declared.states.Snapshot.{Snapshot}
use Rattle.rv_code.specs.Machine.{program}
use Rattle.rv_plain.specs.Cores.{no_state}
use Rattle.tcc_base.specs.declared.access.Commit.{Commit}
use Rattle.rules_program.specs.Plain.{Plain, Attempt, Order, transaction, serial, after_order, and_commit, commit_of}
use Rattle.rules_program.specs.Program.{Program}

pub have-ended : (l : Contents) (s : Snapshot) → length s.cores ≡ l.settings.cores → IsEnd s → HaveEnded l.settings.cores (machine_of l s)
unfolding machine_of
have-ended l s sized end core lt =
    All-get_or HasStopped s.cores core no_state (subst (λ n. core < n) (sym sized) lt) end

-- an end is reached from where all cores have ended
pub end-can : (l : Contents) (states : List Snapshot) (k : ℕ) → length (state_at states k).cores ≡ l.settings.cores
    → IsEnd (state_at states k) → CanEnd l states k
unfolding CanEnd serial
end-can l states k sized end last = ([], have-ended l (state_at states k) sized end)

commit-ended : (n : ℕ) (c : Commit) (x : Option (Plain × List Commit)) → IsSomeAnd x (λ r. HaveEnded n r.0)
    → IsSomeAnd (and_commit c x) (λ r. HaveEnded n r.0)
commit-ended n c None h = absurd h
commit-ended n c (Some r) h = h

order-ended : (n base : ℕ) (p : Program) (o : Order) (os : List Order) (m : Plain) (x : Option (Plain × Attempt))
    → IsSomeAnd x (λ r. m ≡ r.0) → IsSomeAnd (serial base p o.tid os m) (λ r. HaveEnded n r.0)
    → IsSomeAnd (after_order (serial base p o.tid os) o x) (λ r. HaveEnded n r.0)
order-ended n base p o os m None is h = absurd is
order-ended n base p o os m (Some d) is h =
    commit-ended n (commit_of o d.1) (serial base p o.tid os d.0)
    (subst (λ y. IsSomeAnd (serial base p o.tid os y) (λ r. HaveEnded n r.0)) is h)

-- an end is reached from where an edge leads to a state from which one is
pub source-can : (l : Contents) (states : List Snapshot) (e : Edge) → IsEdge l states e → CanEnd l states e.to → CanEnd l states e.from
unfolding CanEnd serial
source-can l states e edge can last =
    let base = l.settings.base in
    let p = program (started l) in
    let o : Order = record { tid = last + 1; core = edge.core; n = edge.n } in
    let rest = can (last + 1) in
    let rises : nat_lt last (last + 1) ≡ true = grind (arith, nat_tests) in (
      o ∷ rest.0,
      rw rises (order-ended l.settings.cores base p o rest.0 (machine_of l (state_at states e.to))
          (transaction base p (machine_of l (state_at states e.from)) edge.core edge.n) edge.leads rest.1),
    )

pub can-not-cannot : (l : Contents) (states : List Snapshot) (k : ℕ) → CanEnd l states k → CannotEnd l states k → ⊥
unfolding CanEnd
can-not-cannot l states k can cannot =
    let some = can 0 in
    go (serial l.settings.base (program (started l)) 0 some.0 (machine_of l (state_at states k))) some.1 (cannot 0 some.0)
  where
    go : (x : Option (Plain × List Commit)) → IsSomeAnd x (λ r. HaveEnded l.settings.cores r.0)
        → IfSome x (λ r. HaveEnded l.settings.cores r.0 → ⊥) → ⊥
    go None h no' = absurd h
    go (Some r) h no' = no' h

commit-marked : (n : ℕ) (M : Type 0) (c : Commit) (x : Option (Plain × List Commit)) → IfSome x (λ r. HaveEnded n r.0 → M)
    → IfSome (and_commit c x) (λ r. HaveEnded n r.0 → M)
commit-marked n M c None h = tt
commit-marked n M c (Some r) h = h

if-marked : (n : ℕ) (M : Type 0) (b : Bool) (x : Option (Plain × List Commit)) → IfSome x (λ r. HaveEnded n r.0 → M)
    → IfSome (if b then x else None) (λ r. HaveEnded n r.0 → M)
if-marked n M true x h = h
if-marked n M false x h = tt

edged-next : (l : Contents) (states : List Snapshot) (edges : List Edge) (k core n : ℕ) → IsEdgedAt l states edges k core
    → IfSome (transaction l.settings.base (program (started l)) (machine_of l (state_at states k)) core n)
    (λ r. HasEdge l states edges k r.0)
unfolding IsEdgedAt
edged-next l states edges k core n h = h n

order-marked : (l : Contents) (states : List Snapshot) (edges : List Edge) (M : ℕ → Type 0) (k : ℕ)
    → ((i : ℕ) → i < length edges → M (edge_at edges i).to → M (edge_at edges i).from)
    → (o : Order) (os : List Order) (x : Option (Plain × Attempt)) → IfSome x (λ r. HasEdge l states edges k r.0)
    → ((j : ℕ) → j < length states
    → IfSome (serial l.settings.base (program (started l)) o.tid os (machine_of l (state_at states j)))
    (λ r. HaveEnded l.settings.cores r.0 → M j))
    → IfSome (after_order (serial l.settings.base (program (started l)) o.tid os) o x) (λ r. HaveEnded l.settings.cores r.0 → M k)
order-marked l states edges M k back o os None h rest = tt
order-marked l states edges M k back o os (Some d) h rest =
    let base = l.settings.base in
    let p = program (started l) in
    let to = (edge_at edges h.edge).to in
    commit-marked l.settings.cores (M k) (commit_of o d.1) (serial base p o.tid os d.0)
    (subst (λ y. IfSome (serial base p o.tid os y) (λ r. HaveEnded l.settings.cores r.0 → M k)) h.to
    (back-one (serial base p o.tid os (machine_of l (state_at states to))) (rest to h.inside)))
  where
    back-one : (x : Option (Plain × List Commit)) → IfSome x (λ r. HaveEnded l.settings.cores r.0 → M (edge_at edges h.edge).to)
        → IfSome x (λ r. HaveEnded l.settings.cores r.0 → M k)
    back-one None e = tt
    back-one (Some r) e = λ ended. subst M h.from (back h.edge h.there (e ended))

-- where the ends have a property, and with the state to which an edge leads the state from which it does, each state has it from
-- which an end is reached
pub ends-have : (l : Contents) (states : List Snapshot) (edges : List Edge) (M : ℕ → Type 0)
    → ((k : ℕ) → k < length states → length (state_at states k).cores ≡ l.settings.cores)
    → AreAllEdges l states edges → ((k : ℕ) → k < length states → IsEnd (state_at states k) → M k)
    → ((i : ℕ) → i < length edges → M (edge_at edges i).to → M (edge_at edges i).from)
    → (last : ℕ) (orders : List Order) (k : ℕ) → k < length states
    → IfSome (serial l.settings.base (program (started l)) last orders (machine_of l (state_at states k)))
    (λ r. HaveEnded l.settings.cores r.0 → M k)
unfolding serial
ends-have l states edges M sized all ends back last [] k lt = λ ended. ends k lt (ended-state l (state_at states k) (sized k lt) ended)
ends-have l states edges M sized all ends back last (o ∷ os) k lt =
    if-marked l.settings.cores (M k) (nat_lt last o.tid)
    (after_order (serial l.settings.base (program (started l)) o.tid os) o
    (transaction l.settings.base (program (started l)) (machine_of l (state_at states k)) o.core o.n))
    (order-marked l states edges M k back o os
    (transaction l.settings.base (program (started l)) (machine_of l (state_at states k)) o.core o.n)
    (edged-next l states edges k o.core o.n (all k lt o.core)) (ends-have l states edges M sized all ends back o.tid os))
