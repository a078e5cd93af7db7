-- What is told to be taken, dropped or to have made a directory ask was told to be sent before.
use Rattle.std.proofs.Common.{◌≡◌, ◌⊎◌, ℕ, zero, suc, true, List, [], ◌∷◌, ◌++◌, Option, Some, None, IfSome}
use Rattle.std.proofs.Common.{refl, sym, ap, subst, ◌∙◌, inl, inr, arith}
use Rattle.std.specs.List.{Contains}
use Rattle.std.specs.Prelude.{slice_index_or}
use Rattle.std.proofs.lemmas.List.{append_assoc}
use Rattle.std.proofs.lemmas.List.Elements.{Contains-append_left, Contains-append_right}
use Rattle.base_lemmas.proofs.Lemmas.{and-right}
use Rattle.rules_maps.specs.Nodes.{Node, Msg, Event, Deliver}
use Rattle.rules_maps.specs.Shape.{Shape}
use Rattle.rules_program.specs.Program.{Program}
use Rattle.rules_tcc.specs.Links.{in_flight}
use Rattle.rules_tcc.specs.State.{Link, World}
use Rattle.rules_tcc.specs.Step.{History, Stepped, and_noted, is_node, names_nodes, next_history, recorded, step}
use Rattle.watch.specs.Facts.{Fact, Took, Dropped, AskedOwner, Sent}
use Rattle.watch.specs.Happened.{actor, acted, commit_fact, moved, sent, facts_of, happened}
use Rattle.trace_law.specs.Sent.{HeardWasSent, NothingSent, Hears}
use Rattle.trace_law.specs.Told.{Told, if_enabled, told, facts_in, begun}
use Rattle.trace_law.proofs.Events.{event-grown, event-heard}
use Rattle.trace_law.proofs.Facts.{heard_in, all_heard}
use Rattle.trace_law.proofs.Grown.{flies-or-sent}
use Rattle.trace_law.proofs.Outcomes.{Happens, step-outcome}

-- each message that is in flight to a node of the machine is told as sent
FliesAsSent : Shape → (before : List Fact) → World → Type 0
FliesAsSent sh before w =
    (s d : Node) (k : ℕ) (m : Msg) → is_node sh d ≡ true → in_flight w.net s d k ≡ Some m → Contains before (Sent s d k m)

event-sends : (sh : Shape) (p : Program) (h : History) (e : Event) (t : Stepped) (before : List Fact) → Happens sh p h e t.world
    → FliesAsSent sh before h.world → FliesAsSent sh (before ++ facts_of sh p h e (Some t)) t.world
unfolding FliesAsSent
event-sends sh p h e t before o was s d k m node f =
    go (flies-or-sent sh h.world t.world (actor e) s d k m
    (event-grown h.world t.world e (acted sh p h.commits h.world t.world e) o.did) node f)
  where
    facts : List Fact
    facts = facts_of sh p h e (Some t)

    did : List Fact
    did = acted sh p h.commits h.world t.world e

    came : List Fact
    came = moved h.world t.world (actor e)

    last : List Fact
    last = sent sh h.world t.world (actor e)

    go : (in_flight h.world.net s d k ≡ Some m) ⊎ Contains last (Sent s d k m) → Contains (before ++ facts) (Sent s d k m)
    go (inl f) = Contains-append_left before facts (Sent s d k m) (was s d k m node f)
    go (inr i) =
        Contains-append_right before facts (Sent s d k m)
        (Contains-append_right did (commit_fact t.noted ++ (came ++ last)) (Sent s d k m)
        (Contains-append_right (commit_fact t.noted) (came ++ last) (Sent s d k m)
        (Contains-append_right came last (Sent s d k m) i)))

-- ---- what is heard is of the message that was in flight

contains-step : {A : Type 0} (x y : A) (xs : List A) → Contains (y ∷ xs) x → (y ≡ x) ⊎ Contains xs x
contains-step x y xs (zero, l, e) = inl e
contains-step x y xs (suc k, l, e) = inr (k, omega (arith, l), e)

contains-nothing : {A : Type 0} (x : A) → Contains [] x → ⊥
contains-nothing x (k, l, e) = omega (arith, l)

-- what one fact gives is among what all give
contains-heard : (f : Fact) (m : Msg) (fs : List Fact) → heard_in f ≡ m ∷ [] → Contains fs f → Contains (all_heard fs) m
unfolding all_heard
contains-heard f m [] e i = absurd (contains-nothing f i)
contains-heard f m (g ∷ fs) e i = go (contains-step f g fs i) (contains-heard f m fs e)
  where
    go : (g ≡ f) ⊎ Contains fs f → (Contains fs f → Contains (all_heard fs) m) → Contains (heard_in g ++ all_heard fs) m
    go (inl same) rest =
        Contains-append_left (heard_in g) (all_heard fs) m
        (subst (λ ms. Contains ms m) (sym (ap heard_in same ∙ e)) (0, omega arith, refl))
    go (inr j) rest = Contains-append_right (heard_in g) (all_heard fs) m (rest j)

hears-heard : (m : Msg) (fs : List Fact) → Hears m fs → Contains (all_heard fs) m
hears-heard m fs (inl i) = contains-heard (Took m) m fs refl i
hears-heard m fs (inr (inl i)) = contains-heard (Dropped m) m fs refl i
hears-heard m fs (inr (inr i)) = contains-heard (AskedOwner m) m fs refl i

names-dst : (sh : Shape) (src dst : Node) (k : ℕ) → names_nodes sh (Deliver src dst k) ≡ true → is_node sh dst ≡ true
unfolding names_nodes
names-dst sh src dst k e = and-right (is_node sh src) (is_node sh dst) e

event-flew : (sh : Shape) (p : Program) (h : History) (src dst : Node) (k : ℕ) (t : Stepped) (m : Msg)
    → Happens sh p h (Deliver src dst k) t.world → Hears m (facts_of sh p h (Deliver src dst k) (Some t))
    → in_flight h.world.net src dst k ≡ Some m
event-flew sh p h src dst k t m o hears = go (contains-step m o.did.message [] one)
  where
    one : Contains (o.did.message ∷ []) m
    one = subst (λ ms. Contains ms m) (event-heard sh p h (Deliver src dst k) t o)
        (hears-heard m (facts_of sh p h (Deliver src dst k) (Some t)) hears)

    go : (o.did.message ≡ m) ⊎ Contains [] m → in_flight h.world.net src dst k ≡ Some m
    go (inl same) = o.did.flew ∙ ap Some same
    go (inr none) = absurd (contains-nothing m none)

-- the message of an event that is a delivery
Flew : Shape → Program → History → Stepped → (src dst : Node) → (k : ℕ) → Msg → Event → Type 0
Flew sh p h t src dst k m e =
    Happens sh p h e t.world → Hears m (facts_of sh p h e (Some t)) → (is_node sh dst ≡ true) × (in_flight h.world.net src dst k ≡ Some m)

delivery-flew : (sh : Shape) (p : Program) (h : History) (t : Stepped) (src dst : Node) (k : ℕ) (m : Msg) (e : Event)
    → e ≡ Deliver src dst k → Flew sh p h t src dst k m e
unfolding Flew
delivery-flew sh p h t src dst k m e same = subst (Flew sh p h t src dst k m) (sym same) here
  where
    here : Flew sh p h t src dst k m (Deliver src dst k)
    here o hears = (names-dst sh src dst k o.names, event-flew sh p h src dst k t m o hears)

-- ---- a run

abbrev delivery : (src dst : Node) → (k : ℕ) → List Fact → Told
delivery src dst k facts = record { event = Deliver src dst k; facts = facts }

never-told : (before after : List Told) (x : Told) → [] ≡ before ++ x ∷ after → ⊥
never-told [] after x e = cc
never-told (b ∷ before) after x e = cc

runs-heard : (sh : Shape) (p : Program) (src dst : Node) (k : ℕ) (facts : List Fact) (m : Msg) (after : List Told) → Hears m facts
    → (es : List Event) (h : History) (sofar : List Fact) (before : List Told) → FliesAsSent sh sofar h.world
    → told sh p es h ≡ before ++ delivery src dst k facts ∷ after → Contains (sofar ++ facts_in before) (Sent src dst k m)
unfolding told facts_in next_history happened Flew FliesAsSent
runs-heard sh p src dst k facts m after hears [] h sofar before was e =
    absurd (never-told before after (delivery src dst k facts) e)
runs-heard sh p src dst k facts m after hears (x ∷ es) h sofar before was e =
    go (step sh p h.world x) (step-outcome sh p h x) (runs-heard sh p src dst k facts m after hears es) before e
  where
    go : (o : Option Stepped) → IfSome o (λ t. Happens sh p h x t.world)
        → ((i : History) (now : List Fact) (bs : List Told) → FliesAsSent sh now i.world
        → told sh p es i ≡ bs ++ delivery src dst k facts ∷ after → Contains (now ++ facts_in bs) (Sent src dst k m))
        → (bs : List Told)
        → if_enabled (record { event = x; facts = facts_of sh p h x o }) (told sh p es) (recorded h o)
        ≡ bs ++ delivery src dst k facts ∷ after
        → Contains (sofar ++ facts_in bs) (Sent src dst k m)
    go None did rest bs f = absurd (never-told bs after (delivery src dst k facts) f)
    go (Some t) did rest [] f =
        let here : record { event = x; facts = facts_of sh p h x (Some t) } ≡ delivery src dst k facts = cc in
        let same : x ≡ Deliver src dst k = ap (λ (y : Told). y.event) here in
        let all : facts ≡ facts_of sh p h x (Some t) = sym (ap (λ (y : Told). y.facts) here) in
        let flew = delivery-flew sh p h t src dst k m x same did (subst (Hears m) all hears) in
        Contains-append_left sofar [] (Sent src dst k m) (was src dst k m flew.0 flew.1)
    go (Some t) did rest (b ∷ bs) f =
        let first : facts_of sh p h x (Some t) ≡ b.facts = cc in
        let later : told sh p es i ≡ bs ++ delivery src dst k facts ∷ after = cc in
        subst (λ fs. Contains (sofar ++ (fs ++ facts_in bs)) (Sent src dst k m)) first
        (subst (λ fs. Contains fs (Sent src dst k m)) (append_assoc sofar (facts_of sh p h x (Some t)) (facts_in bs))
        (rest i (sofar ++ facts_of sh p h x (Some t)) bs (event-sends sh p h x t sofar did was) later))
      where
        i : History
        i = record { world = t.world; commits = and_noted t.noted h.commits }

none-flies : (sh : Shape) (w : World) → NothingSent w → FliesAsSent sh [] w
unfolding FliesAsSent
none-flies sh w none s d k m node f = absurd (nothing (w.net s d) (none s d) f)
  where
    nothing : (l : Link) → l ≡ [] → slice_index_or l k None ≡ Some m → ⊥
    nothing [] e f = cc
    nothing (x ∷ l) e f = cc

pub heard-was-sent : HeardWasSent
heard-was-sent sh p w es none before after src dst k facts m e hears =
    runs-heard sh p src dst k facts m after hears es (begun w) [] before (none-flies sh w none) e
