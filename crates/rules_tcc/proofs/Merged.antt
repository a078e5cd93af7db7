-- The merge of fitting logs is a run: along it, the machine's state and links are those of the local runs so far.
use Rattle.std.proofs.Common.{◌≡◌, ℕ, ◌<◌, ◌≤◌, Bool, true, false, cond, ⊎_elim, List, [], ◌∷◌, ◌++◌, length, Option, Some, None, refl, ap}
use Rattle.std.proofs.Common.{sym, ◌∙◌, subst, arith}
use Rattle.std.specs.Prelude.{slice_get, IsSomeAnd, IfSome}
use Rattle.std.specs.List.{filter}
use Rattle.std.proofs.lemmas.Bool.{cases_Bool}
use Rattle.std.proofs.lemmas.Bool.Decides.{nat_tests}
use Rattle.base_lemmas.proofs.Lemmas.{and-left, node_eq-refl, node_eq-sym}
use Rattle.rules_program.specs.Program.{Local, Program}
use Rattle.rules_maps.specs.Nodes.{Node, Core, Dir, Vendor, Event, Exec, Evict, Deliver, node_eq}
use Rattle.rules_maps.specs.Shape.{Shape}
use Rattle.rules_tcc.specs.State.{World, Link, start}
use Rattle.rules_tcc.specs.Links.{sent_all}
use Rattle.rules_tcc.specs.Step.{Stepped, History, step, recorded, and_noted, next_history, and_then, run_from, run, is_node, names_nodes}
use Rattle.rules_tcc.specs.Local.{NodeState, AtCore, AtDir, AtVendor, state_at, Entry, Acted, act, Mail, mailed, Side, side_start, is_gone}
use Rattle.rules_tcc.specs.Local.{consumed, local, at_node}
use Rattle.rules_tcc.specs.Merged.{Each, StoresMessageOf, StoresItsMessage, Fit, is_at, entry_before, Sorted, IsMerged, events}
use Rattle.rules_tcc.specs.Laws.{ActsOnOne}
use Rattle.rules_tcc.proofs.Acts.{step-acts}
use Rattle.rules_tcc.proofs.Mailed.{link_of, link-same, link-get, link-append, node_eq-eq, net_before, before-here}
use Rattle.rules_tcc.proofs.Mailed.{before-there, WasSent, consumed-small}
use Rattle.rules_tcc.proofs.LocalStep.{IsApplied, Match, IsHeld, step-match, Stepping, Begins, begins, More, sent-later, sent-earlier}
use Rattle.rules_tcc.proofs.LocalStep.{get-below}

-- the sides with the node's new one
abbrev pub with_side : Node → Side → (Node → Side) → Node → Side
with_side n t cur m = cond (node_eq m n) t (cur m)

-- every later entry has at least this stamp
abbrev pub Late : ℕ → List Entry → Type 0
Late t es = Each (λ e. t ≤ e.stamp) es

abbrev pub InOrder : List Entry → Type 0
InOrder [] = Unit {0}
InOrder (e ∷ es) = Late e.stamp es × InOrder es

-- the machine stands where the local runs stand, and the rest of each log leads to its end
pub record Joined (sh : Shape) (p : Program) (sides : Node → Side) (w : World) (cur : Node → Side) (es : List Entry) : Type 0 where
  pub states : (n : Node) → is_node sh n ≡ true → state_at w n ≡ (cur n).state
  pub links : (s d : Node) → w.net s d ≡ link_of ((cur s).sent d) ((cur d).gone s)
  pub small : (s d : Node) (k : ℕ) → length ((cur s).sent d) ≤ k → (cur d).gone s k ≡ false
  pub locals : (n : Node) → is_node sh n ≡ true → local sh p n (filter (is_at n) es) (cur n) ≡ Some (sides n)
  pub stored : Each (StoresItsMessage sides) es
  pub nodes : Each (λ e. is_node sh (at_node e.event) ≡ true) es
  pub sorted : InOrder es

each-filter : (P : Entry → Type 0) (t : Entry → Bool) (es : List Entry) → Each P es → Each P (filter t es)
each-filter P t [] h = tt
each-filter P t (e ∷ es) h = at (t e) h.0 (each-filter P t es h.1)
  where
    at : (b : Bool) → P e → Each P (filter t es) → Each P (cond b (e ∷ filter t es) (filter t es))
    at true x k = (x, k)
    at false x k = k

-- where the first entry is this node's, the node's rest begins with it
filter-here : (n : Node) (e : Entry) (es : List Entry) → node_eq (at_node e.event) n ≡ true
    → filter (is_at n) (e ∷ es) ≡ e ∷ filter (is_at n) es
filter-here n e es h = rw h

filter-there : (n : Node) (e : Entry) (es : List Entry) → node_eq (at_node e.event) n ≡ false
    → filter (is_at n) (e ∷ es) ≡ filter (is_at n) es
filter-there n e es h = rw h

deliver-nodes : (sh : Shape) (src dst : Node) (k : ℕ) → names_nodes sh (Deliver src dst k) ≡ true → is_node sh src ≡ true
unfolding names_nodes
deliver-nodes sh src dst k h = and-left (is_node sh src) (is_node sh dst) h

-- what a handled message was: sent by its source before, and not consumed
pub record Found (cur : Node → Side) (e : Entry) (src dst : Node) (k : ℕ) : Type 0 where
  pub mail : Mail
  pub msg : e.msg ≡ Some mail.msg
  pub sent : slice_get ((cur src).sent dst) k ≡ Some mail

found_in : (sh : Shape) (p : Program) (sides : Node → Side) (cur : Node → Side) (e : Entry) (es : List Entry) (src dst : Node) (k : ℕ)
    (o : Option Mail) →
    slice_get ((sides src).sent dst) k ≡ o
    → IsSomeAnd o (λ mail. (e.msg ≡ Some mail.msg) × (e.msg_stamp ≡ mail.stamp) × (mail.stamp < e.stamp)) →
    More e.stamp ((cur src).sent dst) ((sides src).sent dst) → Found cur e src dst k
found_in sh p sides cur e es src dst k None q h m = absurd h
found_in sh p sides cur e es src dst k (Some mail) q h m = record {
  mail = mail;
  msg = h.0;
  sent = sent-earlier e.stamp ((cur src).sent dst) m.more k mail m.late h.2 (ap (λ l. slice_get l k) (sym m.is) ∙ q);
}

later-of : (sh : Shape) (p : Program) (sides : Node → Side) (w : World) (cur : Node → Side) (e : Entry) (es : List Entry) (src dst : Node)
    → Joined sh p sides w cur (e ∷ es) → is_node sh src ≡ true → More e.stamp ((cur src).sent dst) ((sides src).sent dst)
later-of sh p sides w cur e es src dst j n =
    sent-later sh p src dst e.stamp (filter (is_at src) (e ∷ es)) (cur src) (sides src)
    (each-filter (λ f. e.stamp ≤ f.stamp) (is_at src) (e ∷ es) (omega arith, j.sorted.0))
    (j.locals src n)

pub held : (sh : Shape) (p : Program) (sides : Node → Side) (w : World) (cur : Node → Side) (e : Entry) (es : List Entry) (ev : Event)
    → e.event ≡ ev → Joined sh p sides w cur (e ∷ es) → names_nodes sh ev ≡ true → StoresMessageOf sides e ev
    → is_gone (cur (at_node ev)).gone ev ≡ false →
    IsHeld w e ev × WasSent (λ s d. (cur s).sent d) ev
held sh p sides w cur e es (Exec c) q j n s g = (tt, tt)
held sh p sides w cur e es (Evict c x y) q j n s g = (tt, tt)
held sh p sides w cur e es (Deliver src dst k) q j n s g =
    let f = found_in sh p sides cur e es src dst k (slice_get ((sides src).sent dst) k) refl s
    (later-of sh p sides w cur e es src dst j (deliver-nodes sh src dst k n)) in
    let i = link-get ((cur src).sent dst) ((cur dst).gone src) k f.mail f.sent g in (
      (
        f.mail.msg,
        f.msg,
        subst (λ (l : Link). Rattle.std.specs.Prelude.slice_index_or l k None ≡ Some f.mail.msg)
            (sym (j.links src dst)) i,
      ),
      get-below ((cur src).sent dst) k f.mail f.sent,
    )

state-other : (w v : World) (ev : Event) → ActsOnOne w ev v → (n : Node) → node_eq (at_node ev) n ≡ false → state_at v n ≡ state_at w n
state-other w v ev a (Core c) h = ap AtCore (a.cores c h)
state-other w v ev a (Dir d) h = ap AtDir (a.dirs d h)
state-other w v ev a Vendor h = ap AtVendor (a.vendor h)

-- one event later: the node's new side t, by a step with entry e
pub record After (sh : Shape) (p : Program) (cur : Node → Side) (w : World) (e : Entry) (t : Side) (v : World) : Type 0 where
  pub step : Stepping sh p (at_node e.event) e (cur (at_node e.event)) t
  pub applied : IsApplied w e.event step.did v
  pub others : ActsOnOne w e.event v
  pub sent : WasSent (λ s d. (cur s).sent d) e.event

gone-here : (sh : Shape) (p : Program) (cur : Node → Side) (w : World) (e : Entry) (t : Side) (v : World) → (a : After sh p cur w e t v)
    → (s d : Node) (k : ℕ) → node_eq d (at_node e.event) ≡ true →
    (with_side (at_node e.event) t cur d).gone s k ≡ consumed a.step.did.consumes e.event (cur d).gone s k
gone-here sh p cur w e t v a s d k q =
    let i : d ≡ at_node e.event = node_eq-eq d (at_node e.event) q in
    rw (q, i) (a.step.gone s k)

gone-there : (e : Entry) (t : Side) (cur : Node → Side) (s d : Node) (k : ℕ) → node_eq d (at_node e.event) ≡ false
    → (with_side (at_node e.event) t cur d).gone s k ≡ (cur d).gone s k
gone-there e t cur s d k q = rw q

sent-here : (sh : Shape) (p : Program) (cur : Node → Side) (w : World) (e : Entry) (t : Side) (v : World) → (a : After sh p cur w e t v)
    → (s d : Node) → node_eq s (at_node e.event) ≡ true →
    (with_side (at_node e.event) t cur s).sent d ≡ (cur s).sent d ++ mailed e.stamp (a.step.did.sends d)
sent-here sh p cur w e t v a s d q =
    let i : s ≡ at_node e.event = node_eq-eq s (at_node e.event) q in
    rw (q, i) (a.step.sent d)

sent-there : (e : Entry) (t : Side) (cur : Node → Side) (s d : Node) → node_eq s (at_node e.event) ≡ false
    → (with_side (at_node e.event) t cur s).sent d ≡ (cur s).sent d
sent-there e t cur s d q = rw q

-- the link without what was consumed
before-is : (sh : Shape) (p : Program) (sides : Node → Side) (cur : Node → Side) (w : World) (e : Entry) (es : List Entry) (t : Side)
    (v : World) → (a : After sh p cur w e t v) → Joined sh p sides w cur (e ∷ es) → (s d : Node) →
    net_before w.net e.event a.step.did.consumes s d ≡ link_of ((cur s).sent d) ((with_side (at_node e.event) t cur d).gone s)
before-is sh p sides cur w e es t v a j s d = ⊎_elim
    (λ q. before-here w.net e.event a.step.did.consumes s d ((cur s).sent d) (cur d).gone q (j.links s d)
    ∙ link-same ((cur s).sent d) (consumed a.step.did.consumes e.event (cur d).gone s)
    ((with_side (at_node e.event) t cur d).gone s) (λ k. sym (gone-here sh p cur w e t v a s d k q)))
    (λ q. before-there w.net e.event a.step.did.consumes s d q
    ∙ (j.links s d ∙ link-same ((cur s).sent d) ((cur d).gone s) ((with_side (at_node e.event) t cur d).gone s)
    (λ k. sym (gone-there e t cur s d k q))))
    (cases_Bool (node_eq d (at_node e.event)))

-- no number is consumed that wasn't sent before
small-before : (sh : Shape) (p : Program) (sides : Node → Side) (cur : Node → Side) (w : World) (e : Entry) (es : List Entry) (t : Side)
    (v : World) → (a : After sh p cur w e t v) → Joined sh p sides w cur (e ∷ es) → (s d : Node) (k : ℕ) →
    length ((cur s).sent d) ≤ k → (with_side (at_node e.event) t cur d).gone s k ≡ false
small-before sh p sides cur w e es t v a j s d k h = ⊎_elim
    (λ q. gone-here sh p cur w e t v a s d k q ∙ consumed-small (λ s d. (cur s).sent d) e.event a.step.did.consumes s d (cur d).gone a.sent
    (node_eq-eq d (at_node e.event) q) (j.small s d) k h)
    (λ q. gone-there e t cur s d k q ∙ j.small s d k h)
    (cases_Bool (node_eq d (at_node e.event)))

links-after : (sh : Shape) (p : Program) (sides : Node → Side) (cur : Node → Side) (w : World) (e : Entry) (es : List Entry) (t : Side)
    (v : World) → (a : After sh p cur w e t v) → Joined sh p sides w cur (e ∷ es) → (s d : Node) →
    v.net s d ≡ link_of ((with_side (at_node e.event) t cur s).sent d) ((with_side (at_node e.event) t cur d).gone s)
links-after sh p sides cur w e es t v a j s d = ⊎_elim
    (λ q. a.applied.net s d ∙ (chosen q ∙ (ap (λ l. l ++ sent_all (a.step.did.sends d)) (before-is sh p sides cur w e es t v a j s d)
    ∙ (sym (link-append ((cur s).sent d) e.stamp (a.step.did.sends d) ((with_side (at_node e.event) t cur d).gone s)
    (small-before sh p sides cur w e es t v a j s d))
    ∙ ap (λ l. link_of l ((with_side (at_node e.event) t cur d).gone s)) (sym (sent-here sh p cur w e t v a s d q))))))
    (λ q. a.applied.net s d ∙ (chosen q
    ∙ (before-is sh p sides cur w e es t v a j s d ∙ ap (λ l. link_of l ((with_side (at_node e.event) t cur d).gone s))
    (sym (sent-there e t cur s d q)))))
    (cases_Bool (node_eq s (at_node e.event)))
  where
    nb : Link
    nb = net_before w.net e.event a.step.did.consumes s d

    chosen : {b : Bool} → node_eq s (at_node e.event) ≡ b → cond (node_eq s (at_node e.event)) (nb ++ sent_all (a.step.did.sends d)) nb
        ≡ cond b (nb ++ sent_all (a.step.did.sends d)) nb
    chosen q = ap (λ (x : Bool). cond x (nb ++ sent_all (a.step.did.sends d)) nb) q

longer : (xs ys : List Mail) → length xs ≤ length (xs ++ ys)
longer [] ys = omega arith
longer (x ∷ xs) ys = let h = longer xs ys in omega arith

small-after : (sh : Shape) (p : Program) (sides : Node → Side) (cur : Node → Side) (w : World) (e : Entry) (es : List Entry) (t : Side)
    (v : World) → (a : After sh p cur w e t v) → Joined sh p sides w cur (e ∷ es) → (s d : Node) (k : ℕ) →
    length ((with_side (at_node e.event) t cur s).sent d) ≤ k → (with_side (at_node e.event) t cur d).gone s k ≡ false
small-after sh p sides cur w e es t v a j s d k h = small-before sh p sides cur w e es t v a j s d k (⊎_elim
    (λ q. let i = ap length (sent-here sh p cur w e t v a s d q) in let l = longer ((cur s).sent d) (mailed e.stamp (a.step.did.sends d)) in
    omega arith)
    (λ q. let i = ap length (sent-there e t cur s d q) in omega arith)
    (cases_Bool (node_eq s (at_node e.event))))

states-after : (sh : Shape) (p : Program) (sides : Node → Side) (cur : Node → Side) (w : World) (e : Entry) (es : List Entry) (t : Side)
    (v : World) → (a : After sh p cur w e t v) → Joined sh p sides w cur (e ∷ es) → (n : Node) → is_node sh n ≡ true →
    state_at v n ≡ (with_side (at_node e.event) t cur n).state
states-after sh p sides cur w e es t v a j n h = ⊎_elim
    (λ q. ap (state_at v) (node_eq-eq n (at_node e.event) q)
    ∙ (a.applied.here ∙ (sym a.step.state ∙ ap (λ (x : Bool). (cond x t (cur n)).state) (sym q))))
    (λ q. state-other w v e.event a.others n (node_eq-sym (at_node e.event) n ∙ q)
    ∙ (j.states n h ∙ ap (λ (x : Bool). (cond x t (cur n)).state) (sym q)))
    (cases_Bool (node_eq n (at_node e.event)))

locals-after : (sh : Shape) (p : Program) (sides : Node → Side) (cur : Node → Side) (w : World) (e : Entry) (es : List Entry) (t : Side)
    → Joined sh p sides w cur (e ∷ es) → local sh p (at_node e.event) (filter (is_at (at_node e.event)) es) t ≡ Some
    (sides (at_node e.event)) → (n : Node) → is_node sh n ≡ true →
    local sh p n (filter (is_at n) es) (with_side (at_node e.event) t cur n) ≡ Some (sides n)
locals-after sh p sides cur w e es t j r n h = ⊎_elim
    (λ q. ap (λ (x : Bool). local sh p n (filter (is_at n) es) (cond x t (cur n))) q
    ∙ subst (λ (m : Node). local sh p m (filter (is_at m) es) t ≡ Some (sides m)) (sym (node_eq-eq n (at_node e.event) q)) r)
    (λ q. ap (λ (x : Bool). local sh p n (filter (is_at n) es) (cond x t (cur n))) q
    ∙ (ap (λ (l : List Entry). local sh p n l (cur n)) (sym (filter-there n e es (node_eq-sym (at_node e.event) n ∙ q))) ∙ j.locals n h))
    (cases_Bool (node_eq n (at_node e.event)))

joined-after : (sh : Shape) (p : Program) (sides : Node → Side) (cur : Node → Side) (w : World) (e : Entry) (es : List Entry) (t : Side)
    (v : World) → After sh p cur w e t v → Joined sh p sides w cur (e ∷ es) →
    local sh p (at_node e.event) (filter (is_at (at_node e.event)) es) t ≡ Some (sides (at_node e.event))
    → Joined sh p sides v (with_side (at_node e.event) t cur) es
joined-after sh p sides cur w e es t v a j r = record {
  states = states-after sh p sides cur w e es t v a j;
  links = links-after sh p sides cur w e es t v a j;
  small = small-after sh p sides cur w e es t v a j;
  locals = locals-after sh p sides cur w e es t j r;
  stored = j.stored.1;
  nodes = j.nodes.1;
  sorted = j.sorted.1;
}

-- the first entry's step, by the local run and by the machine
begins-here : (sh : Shape) (p : Program) (sides : Node → Side) (cur : Node → Side) (w : World) (e : Entry) (es : List Entry)
    → Joined sh p sides w cur (e ∷ es) → Begins sh p (at_node e.event) e (filter (is_at (at_node e.event)) es) (cur (at_node e.event))
    (sides (at_node e.event))
begins-here sh p sides cur w e es j =
    begins sh p (at_node e.event) e (filter (is_at (at_node e.event)) es) (cur (at_node e.event)) (sides (at_node e.event))
    (subst (λ (l : List Entry). local sh p (at_node e.event) l (cur (at_node e.event)) ≡ Some (sides (at_node e.event)))
    (filter-here (at_node e.event) e es (node_eq-refl (at_node e.event))) (j.locals (at_node e.event) j.nodes.0))

abbrev Ends : Shape → (Node → Side) → Option History → Type 0
Ends sh sides o = IsSomeAnd o (λ h. (n : Node) → is_node sh n ≡ true → state_at h.world n ≡ (sides n).state)

run-step : (sh : Shape) (p : Program) (sides : Node → Side) (cur : Node → Side) (e : Entry) (es : List Entry) (h : History)
    (j : Joined sh p sides h.world cur (e ∷ es)) →
    ((v : World) (c : List Rattle.tcc_base.specs.declared.access.Commit.Commit) (next : Node → Side) → Joined sh p sides v next es
    → Ends sh sides (run_from sh p (events es) (record { world = v; commits = c }))) →
    (b : Begins sh p (at_node e.event) e (filter (is_at (at_node e.event)) es) (cur (at_node e.event)) (sides (at_node e.event))) →
    WasSent (λ s d. (cur s).sent d) e.event →
    (oa : Option Acted) → oa ≡ Some b.step.did → (ot : Option Stepped) → Match h.world e.event oa ot
    → IfSome ot (λ t. ActsOnOne h.world e.event t.world) →
    Ends sh sides (and_then (run_from sh p (events es)) (recorded h ot))
run-step sh p sides cur e es h j go b s None q ot m a = absurd (cc)
run-step sh p sides cur e es h j go b s (Some d) q None m a = absurd m
run-step sh p sides cur e es h j go b s (Some d) q (Some t) m a =
    let i : d ≡ b.step.did = cc in
    let x : IsApplied h.world e.event b.step.did t.world = subst (λ (y : Acted). IsApplied h.world e.event y t.world) i m in
    go t.world (and_noted t.noted h.commits) (with_side (at_node e.event) b.then cur)
    (joined-after sh p sides cur h.world e es b.then t.world (record { step = b.step; applied = x; others = a; sent = s }) j b.rest)

runs : (sh : Shape) (p : Program) (sides : Node → Side) (es : List Entry) (cur : Node → Side) (h : History)
    → Joined sh p sides h.world cur es → Ends sh sides (run_from sh p (events es) h)
unfolding run_from local next_history
runs sh p sides [] cur h j = λ n k. let e : cur n ≡ sides n = (let l = j.locals n k in cc) in j.states n k ∙ ap (λ (x : Side). x.state) e
runs sh p sides (e ∷ es) cur h j =
    let b : Begins sh p (at_node e.event) e (filter (is_at (at_node e.event)) es) (cur (at_node e.event)) (sides (at_node e.event)) =
    begins-here sh p sides cur h.world e es j in
    let k : IsHeld h.world e e.event × WasSent (λ s d. (cur s).sent d) e.event =
    held sh p sides h.world cur e es e.event refl j b.step.named j.stored.0 b.step.fresh in
    run-step sh p sides cur e es h j (λ v c next i. runs sh p sides es next (record { world = v; commits = c }) i) b k.1
    (act sh p (state_at h.world (at_node e.event)) e.event e.msg)
    (ap (λ (x : NodeState). act sh p x e.event e.msg) (j.states (at_node e.event) j.nodes.0) ∙ b.step.acts)
    (step sh p h.world e.event)
    (step-match sh p h.world e e.event b.step.named k.0)
    (step-acts sh p h.world e.event)

each-tail : (P : Entry → Type 0) (n : Node) (e : Entry) (es : List Entry) → Each P (filter (is_at n) (e ∷ es))
    → Each P (filter (is_at n) es)
each-tail P n e es h = at (node_eq (at_node e.event) n) refl
  where
    at : (b : Bool) → node_eq (at_node e.event) n ≡ b → Each P (filter (is_at n) es)
    at true q = let i : Each P (e ∷ filter (is_at n) es) = subst (Each P) (filter-here n e es q) h in i.1
    at false q = subst (Each P) (filter-there n e es q) h

-- what holds of each log's entries holds of all
each-parts : (P : Entry → Type 0) (sh : Shape) (es : List Entry) → ((n : Node) → is_node sh n ≡ true → Each P (filter (is_at n) es))
    → Each (λ e. is_node sh (at_node e.event) ≡ true) es → Each P es
each-parts P sh [] f h = tt
each-parts P sh (e ∷ es) f h =
    let i : Each P (e ∷ filter (is_at (at_node e.event)) es) =
    subst (Each P) (filter-here (at_node e.event) e es (node_eq-refl (at_node e.event))) (f (at_node e.event) h.0) in
    (i.0, each-parts P sh es (λ n k. each-tail P n e es (f n k)) h.1)

stamp-le : (e f : Entry) → entry_before e f ≡ true → e.stamp ≤ f.stamp
stamp-le e f h = grind (arith, nat_tests)

stamps-le : (e : Entry) (es : List Entry) → Each (λ f. entry_before e f ≡ true) es → Late e.stamp es
stamps-le e [] h = tt
stamps-le e (f ∷ es) h = (stamp-le e f h.0, stamps-le e es h.1)

sorted-order : (es : List Entry) → Sorted es → InOrder es
sorted-order [] h = tt
sorted-order (e ∷ es) h = (stamps-le e es h.0, sorted-order es h.1)

joined-start : (sh : Shape) (p : Program) (entries : ℕ → Local) (ram : ℕ → ℕ) (logs : Node → List Entry) (sides : Node → Side)
    (es : List Entry) → Fit sh p (start entries ram) logs sides → IsMerged sh logs es →
    Joined sh p sides (start entries ram) (λ n. side_start (state_at (start entries ram) n)) es
unfolding start side_start link_of
joined-start sh p entries ram logs sides es f m = record {
  states = λ n h. refl;
  links = λ s d. refl;
  small = λ s d k h. refl;
  locals = λ n h. rw (m.parts n h) (f.locals n h);
  stored =
      each-parts (StoresItsMessage sides) sh es (λ n h. subst (Each (StoresItsMessage sides)) (sym (m.parts n h)) (f.stored n h)) m.nodes;
  nodes = m.nodes;
  sorted = sorted-order es m.sorted;
}

pub merged-runs : (sh : Shape) (p : Program) (entries : ℕ → Local) (ram : ℕ → ℕ) (logs : Node → List Entry) (sides : Node → Side)
    (es : List Entry) → Fit sh p (start entries ram) logs sides → IsMerged sh logs es →
    IsSomeAnd (run sh p (start entries ram) (events es)) (λ h. (n : Node) → is_node sh n ≡ true → state_at h.world n ≡ (sides n).state)
unfolding run
merged-runs sh p entries ram logs sides es f m =
    runs sh p sides es (λ n. side_start (state_at (start entries ram) n)) (record { world = start entries ram; commits = [] })
    (joined-start sh p entries ram logs sides es f m)
