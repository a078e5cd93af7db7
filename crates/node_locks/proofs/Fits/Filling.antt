-- A log's entries with their messages are the same by any lists that begin with what came.
use Rattle.std.proofs.Common.{◌≡◌, ℕ, zero, suc, ◌<◌, List, [], ◌∷◌, ◌++◌, Option, Some, None, refl, ap, sym, ◌∙◌, subst}
use Rattle.std.specs.Prelude.{map, slice_get, IsSomeAnd}
use Rattle.std.proofs.lemmas.List.Elements.{All-head, All-tail}
use Rattle.rules_maps.specs.Nodes.{Node, Event, Exec, Evict, Deliver}
use Rattle.rules_maps.specs.Shape.{Shape}
use Rattle.tcc_msg.specs.Plain.{event_of}
use Rattle.rules_program.specs.Program.{Program}
use Rattle.rules_tcc.proofs.Lemmas.{node_eq-eq}
use Rattle.rules_tcc.proofs.Lemmas.{begins}
use Rattle.rules_tcc.specs.Local.{Mail, Side, at_node, local}
use Rattle.rules_tcc.specs.Merged.{Each, StoresItsMessage, StoresMessageOf}
use Rattle.rules_apart.specs.Filled.{filled, handled, entry_of}
use Rattle.rules_apart.specs.declared.logs.Logged.{Logged}
use Rattle.apart_node.specs.Node.{AreStored, CameBefore}

-- the one list begins with the other
abbrev pub Begins : (part whole : List Mail) → Type 0
Begins part whole = (rest : List Mail) × (whole ≡ part ++ rest)

slice_get-longer : (xs ys : List Mail) (k : ℕ) (x : Mail) → slice_get xs k ≡ Some x → slice_get (xs ++ ys) k ≡ Some x
slice_get-longer [] ys k x e = absurd (cc)
slice_get-longer (y ∷ xs) ys zero x e = e
slice_get-longer (y ∷ xs) ys (suc k) x e = slice_get-longer xs ys k x e

-- what came under a number was sent under it
came-sent : (got sent : List Mail) (k : ℕ) → Begins got sent → (o : Option Mail) → slice_get got k ≡ o → (t : ℕ)
    → IsSomeAnd o (λ m. m.stamp < t)
    → slice_get sent k ≡ o
came-sent got sent k b None e t h = absurd h
came-sent got sent k b (Some m) e t h = subst (λ l. slice_get l k ≡ Some m) (sym b.1) (slice_get-longer got b.0 k m e)

handled-same : (got sent : Node → List Mail) (t : ℕ) (e : Event) → ((src : Node) → Begins (got src) (sent src)) → CameBefore got t e
    → handled got e ≡ handled sent e
handled-same got sent t (Deliver src dst k) b c = sym (came-sent (got src) (sent src) k (b src) (slice_get (got src) k) refl t c)
handled-same got sent t (Exec c) b h = refl
handled-same got sent t (Evict c x y) b h = refl

filled-same : (got sent : Node → List Mail) (l : Logged) → ((src : Node) → Begins (got src) (sent src))
    → CameBefore got l.stamp (event_of l.event) → filled got l ≡ filled sent l
unfolding filled
filled-same got sent l b c = ap (entry_of l.stamp (event_of l.event)) (handled-same got sent l.stamp (event_of l.event) b c)

pub all-filled : (got sent : Node → List Mail) (log : List Logged) → ((src : Node) → Begins (got src) (sent src)) → AreStored got log
    → map (filled got) log ≡ map (filled sent) log
all-filled got sent [] b s = refl
all-filled got sent (l ∷ ls) b s =
    let head = filled-same got sent l b (All-head (λ (e : Logged). CameBefore got e.stamp (event_of e.event)) l ls s) in
    let tail = all-filled got sent ls b (All-tail (λ (e : Logged). CameBefore got e.stamp (event_of e.event)) l ls s) in
    λ i. head i ∷ tail i

-- an entry stores what its source sent
stored-some : (sides : Node → Side) (t : ℕ) (src dst : Node) (k : ℕ) (e : Event) (o : Option Mail) → slice_get ((sides src).sent dst) k ≡ o
    → IsSomeAnd o (λ m. m.stamp < t) → StoresMessageOf sides (entry_of t e o) (Deliver src dst k)
stored-some sides t src dst k e None q h = absurd h
stored-some sides t src dst k e (Some m) q h =
    subst (λ p. IsSomeAnd p (λ mail. (Some m.msg ≡ Some mail.msg) × (m.stamp ≡ mail.stamp) × (mail.stamp < t))) (sym q) (refl, refl, h)

stored-event : (sides : Node → Side) (n : Node) (got : Node → List Mail) (t : ℕ) (e : Event)
    → ((src : Node) → Begins (got src) ((sides src).sent n))
    → at_node e ≡ n → CameBefore got t e → StoresMessageOf sides (entry_of t e (handled (λ src. (sides src).sent n) e)) e
stored-event sides n got t (Deliver src dst k) b at c =
    subst (λ d. StoresMessageOf sides (entry_of t (Deliver src dst k) (slice_get ((sides src).sent n) k)) (Deliver src d k)) (sym at)
    (subst (λ p. StoresMessageOf sides (entry_of t (Deliver src dst k) p) (Deliver src n k)) (sym sent)
    (stored-some sides t src n k (Deliver src dst k) (slice_get (got src) k) sent c))
  where
    sent : slice_get ((sides src).sent n) k ≡ slice_get (got src) k
    sent = came-sent (got src) ((sides src).sent n) k (b src) (slice_get (got src) k) refl t c
stored-event sides n got t (Exec c) b at h = tt
stored-event sides n got t (Evict c x y) b at h = tt

stored-filled : (sides : Node → Side) (n : Node) (got : Node → List Mail) (l : Logged)
    → ((src : Node) → Begins (got src) ((sides src).sent n))
    → at_node (event_of l.event) ≡ n → CameBefore got l.stamp (event_of l.event) →
    StoresItsMessage sides (filled (λ src. (sides src).sent n) l)
unfolding filled
stored-filled sides n got l b at c = go (handled (λ src. (sides src).sent n) (event_of l.event))
    (stored-event sides n got l.stamp (event_of l.event) b at c)
  where
    go : (o : Option Mail) → StoresMessageOf sides (entry_of l.stamp (event_of l.event) o) (event_of l.event)
        → StoresMessageOf sides (entry_of l.stamp (event_of l.event) o) (entry_of l.stamp (event_of l.event) o).event
    go None h = h
    go (Some m) h = h

event-of-filled : (from : Node → List Mail) (l : Logged) → (filled from l).event ≡ event_of l.event
unfolding filled
event-of-filled from l = go (handled from (event_of l.event))
  where
    go : (o : Option Mail) → (entry_of l.stamp (event_of l.event) o).event ≡ event_of l.event
    go None = refl
    go (Some m) = refl

-- all entries of a local run are of its node, and store what was sent to it
pub all-stored : (sh : Shape) (p : Program) (sides : Node → Side) (n : Node) (got : Node → List Mail) (log : List Logged) (s f : Side)
    → ((src : Node) → Begins (got src) ((sides src).sent n)) → AreStored got log
    → local sh p n (map (filled (λ src. (sides src).sent n)) log) s ≡ Some f
    → Each (StoresItsMessage sides) (map (filled (λ src. (sides src).sent n)) log)
all-stored sh p sides n got [] s f b st run = tt
all-stored sh p sides n got (l ∷ ls) s f b st run =
    let from : Node → List Mail = λ src. (sides src).sent n in
    let first = begins sh p n (filled from l) (map (filled from) ls) s f run in
    let at : at_node (event_of l.event) ≡ n = sym (ap at_node (event-of-filled from l)) ∙ node_eq-eq _ _ first.step.at in
    let here = stored-filled sides n got l b at (All-head (λ (e : Logged). CameBefore got e.stamp (event_of e.event)) l ls st) in (
      here,
      all-stored sh p sides n got ls first.then f b (All-tail (λ (e : Logged). CameBefore got e.stamp (event_of e.event)) l ls st)
          first.rest,
    )
