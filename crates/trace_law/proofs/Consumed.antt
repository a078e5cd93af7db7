-- After each run one event consumed a message that was sent and isn't in flight, and none another.
use Rattle.std.proofs.Common.{◌≡◌, ◌==◌, ◌+◌, ℕ, Bool, true, false, List, [], ◌∷◌, ◌++◌, Option, Some, None, IfSome, ◌&&◌}
use Rattle.std.proofs.Common.{if◌then◌else◌, cond, refl, sym, ap, subst, ◌∙◌, arith}
use Rattle.std.specs.List.{count_by}
use Rattle.std.specs.Prelude.{slice_set, slice_index_or}
use Rattle.std.proofs.lemmas.Bool.Decides.{nat_tests}
use Rattle.std.proofs.lemmas.List.Sums.{sum_by-cons}
use Rattle.base_lemmas.proofs.Lemmas.{node_eq-sym}
use Rattle.rules_maps.specs.Nodes.{Node, Core, Msg, Event, Exec, Evict, Deliver, node_eq}
use Rattle.rules_maps.specs.Shape.{Shape}
use Rattle.rules_program.specs.Program.{Program}
use Rattle.rules_tcc.specs.Links.{in_flight, sent_all, sending}
use Rattle.rules_tcc.specs.Sends.{Sends}
use Rattle.rules_tcc.specs.State.{Link, World}
use Rattle.rules_tcc.specs.Step.{History, Stepped, and_noted, and_then, next_history, recorded, run, run_from, step}
use Rattle.rules_tcc.proofs.Lemmas.{node_eq-eq}
use Rattle.watch.specs.Facts.{Fact}
use Rattle.watch.specs.Happened.{acted, facts_of, happened}
use Rattle.trace_law.specs.Sent.{ConsumedOnce, NothingSent, is_delivery, consumes, is_gone}
use Rattle.trace_law.specs.Told.{Told, if_enabled, told, begun}
use Rattle.trace_law.proofs.Events.{consumed_by, event-consumed}
use Rattle.trace_law.proofs.Links.{gone_in, gone-sent, gone-set}
use Rattle.trace_law.proofs.Outcomes.{Alone, Outcome, Happens, leaves, left, step-outcome}

-- what is sent isn't gone
gone-sending : (links : Node → Node → Link) (a : Node) (sends : Sends) (s d : Node) (j : ℕ)
    → gone_in (sending links a sends s d) j ≡ gone_in (links s d) j
gone-sending links a sends s d j = go (node_eq s a)
  where
    go : (b : Bool) → gone_in (if b then links s d ++ sent_all (sends d) else links s d) j ≡ gone_in (links s d) j
    go true = gone-sent (links s d) (sends d) j
    go false = refl

-- message k from src to dst is delivered, and consumed where that is so
is_this : (b : Bool) → (src dst : Node) → (k : ℕ) → (s d : Node) → (j : ℕ) → Bool
is_this b src dst k s d j = is_delivery s d j (Deliver src dst k) && b

none-more : (x : Bool) (n : ℕ) → x ≡ false → n ≡ cond x 1 0 + n
none-more true n f = absurd cc
none-more false n f = omega arith

gone-left : (b : Bool) (net : Node → Node → Link) (src dst : Node) (k : ℕ) (m : Msg) (s d : Node) (j : ℕ)
    → in_flight net src dst k ≡ Some m
    → cond (gone_in (left b net src dst k s d) j) 1 0 ≡ cond (is_this b src dst k s d j) 1 0 + cond (gone_in (net s d) j) 1 0
unfolding is_this
gone-left false net src dst k m s d j e =
    none-more (is_delivery s d j (Deliver src dst k) && false) (cond (gone_in (net s d) j) 1 0) (grind (arith, nat_tests))
gone-left true net src dst k m s d j e = go (node_eq s src) (node_eq d dst) refl refl
  where
    none : is_delivery s d j (Deliver src dst k) ≡ false
        → cond (gone_in (net s d) j) 1 0 ≡ cond (is_delivery s d j (Deliver src dst k) && true) 1 0 + cond (gone_in (net s d) j) 1 0
    none f = none-more (is_delivery s d j (Deliver src dst k) && true) (cond (gone_in (net s d) j) 1 0) (grind (arith, nat_tests, f))

    go : (x y : Bool) → node_eq s src ≡ x → node_eq d dst ≡ y
        → cond (gone_in (if x && y then slice_set (net s d) k None else net s d) j) 1 0
        ≡ cond (is_delivery s d j (Deliver src dst k) && true) 1 0 + cond (gone_in (net s d) j) 1 0
    go true true f g =
        let first : node_eq src s ≡ true = node_eq-sym src s ∙ f in
        let second : node_eq dst d ≡ true = node_eq-sym dst d ∙ g in
        let third : (k == j) ≡ (j == k) = grind (arith, nat_tests) in
        let here : slice_index_or (net s d) k None ≡ Some m =
        subst (λ n. slice_index_or (net n d) k None ≡ Some m) (sym (node_eq-eq s src f))
        (subst (λ n. slice_index_or (net src n) k None ≡ Some m) (sym (node_eq-eq d dst g)) e) in
        let set = gone-set (net s d) k j m here in
        rw (first, second, third) (with-true (j == k) set)
      where
        with-true : (b : Bool) → cond (gone_in (slice_set (net s d) k None) j) 1 0 ≡ cond b 1 0 + cond (gone_in (net s d) j) 1 0
            → cond (gone_in (slice_set (net s d) k None) j) 1 0 ≡ cond (b && true) 1 0 + cond (gone_in (net s d) j) 1 0
        with-true true q = q
        with-true false q = q
    go true false f g =
        let second : node_eq dst d ≡ false = node_eq-sym dst d ∙ g in
        none (grind (arith, nat_tests, second))
    go false y f g =
        let first : node_eq src s ≡ false = node_eq-sym src s ∙ f in
        none (grind (arith, nat_tests, first))

-- ---- an event

-- an event with what it did
abbrev event_told : Shape → Program → History → Event → Stepped → Told
event_told sh p h e t = record { event = e; facts = facts_of sh p h e (Some t) }

abbrev by_event : (w v : World) → (s d : Node) → (j : ℕ) → (e : Event) → (fs : List Fact) → Outcome w v e fs → Bool
by_event w v s d j e fs o = is_delivery s d j e && consumed_by w v e fs o

alone-gone : (w v : World) (a : Node) (fs : List Fact) (s d : Node) (j : ℕ) → Alone w v a fs
    → cond {A = ℕ} (is_gone v s d j) 1 0 ≡ cond (gone_in (w.net s d) j) 1 0
alone-gone w v a fs s d j o =
    ap (λ n. cond {A = ℕ} (gone_in (n s d) j) 1 0) o.grown ∙ ap (λ b. cond {A = ℕ} b 1 0) (gone-sending w.net a o.sends s d j)

outcome-gone : (w v : World) (e : Event) (fs : List Fact) (s d : Node) (j : ℕ) (o : Outcome w v e fs)
    → cond (is_gone v s d j) 1 0 ≡ cond (by_event w v s d j e fs o) 1 0 + cond (is_gone w s d j) 1 0
unfolding is_this
outcome-gone w v (Exec c) fs s d j o = omega (arith, alone-gone w v (Core c) fs s d j o)
outcome-gone w v (Evict c x y) fs s d j o = omega (arith, alone-gone w v (Core c) fs s d j o)
outcome-gone w v (Deliver src dst k) fs s d j o =
    ap (λ n. cond {A = ℕ} (gone_in (n s d) j) 1 0) o.grown
    ∙ ap (λ b. cond {A = ℕ} b 1 0) (gone-sending (left (leaves o.end) w.net src dst k) dst o.sends s d j)
    ∙ gone-left (leaves o.end) w.net src dst k o.message s d j o.flew

event-gone : (sh : Shape) (p : Program) (h : History) (e : Event) (t : Stepped) (s d : Node) (j : ℕ) → Happens sh p h e t.world
    → cond (is_gone t.world s d j) 1 0 ≡ cond (consumes s d j (event_told sh p h e t)) 1 0 + cond (is_gone h.world s d j) 1 0
event-gone sh p h e t s d j o =
    outcome-gone h.world t.world e (acted sh p h.commits h.world t.world e) s d j o.did
    ∙ ap (λ b. cond (is_delivery s d j e && b) 1 0 + cond (is_gone h.world s d j) 1 0) (sym (event-consumed sh p h e t o))

-- ---- a run

runs-consumed : (sh : Shape) (p : Program) (s d : Node) (j : ℕ) (es : List Event) (h : History)
    → IfSome (run_from sh p es h)
    (λ g. cond (is_gone g.world s d j) 1 0 ≡ count_by (consumes s d j) (told sh p es h) + cond (is_gone h.world s d j) 1 0)
unfolding run_from next_history told happened
runs-consumed sh p s d j [] h = omega arith
runs-consumed sh p s d j (e ∷ es) h = go (step sh p h.world e) (step-outcome sh p h e) (runs-consumed sh p s d j es)
  where
    go : (o : Option Stepped) → IfSome o (λ t. Happens sh p h e t.world)
        → ((i : History) → IfSome (run_from sh p es i)
        (λ g. cond (is_gone g.world s d j) 1 0 ≡ count_by (consumes s d j) (told sh p es i) + cond (is_gone i.world s d j) 1 0))
        → IfSome (and_then (run_from sh p es) (recorded h o)) (λ g. cond (is_gone g.world s d j) 1 0
        ≡ count_by (consumes s d j) (if_enabled (record { event = e; facts = facts_of sh p h e o }) (told sh p es) (recorded h o))
        + cond (is_gone h.world s d j) 1 0)
    go None did rest = tt
    go (Some t) did rest = last (run_from sh p es i) (rest i)
      where
        i : History
        i = record { world = t.world; commits = and_noted t.noted h.commits }

        last : (x : Option History)
            → IfSome x (λ g. cond (is_gone g.world s d j) 1 0
            ≡ count_by (consumes s d j) (told sh p es i) + cond (is_gone t.world s d j) 1 0)
            → IfSome x (λ g. cond (is_gone g.world s d j) 1 0
            ≡ count_by (consumes s d j) (event_told sh p h e t ∷ told sh p es i) + cond (is_gone h.world s d j) 1 0)
        last None q = tt
        last (Some g) q =
            let more = sum_by-cons (λ x. cond (consumes s d j x) 1 0) (event_told sh p h e t) (told sh p es i) in
            let now = event-gone sh p h e t s d j did in
            omega (arith, q, more, now)

none-gone : (w : World) (s d : Node) (j : ℕ) → NothingSent w → cond {A = ℕ} (is_gone w s d j) 1 0 ≡ 0
none-gone w s d j none = ap (λ l. cond {A = ℕ} (gone_in l j) 1 0) (none s d) ∙ nothing j
  where
    nothing : (j : ℕ) → cond {A = ℕ} (gone_in [] j) 1 0 ≡ 0
    nothing j = grind (arith, nat_tests)

pub consumed-once : ConsumedOnce
unfolding run
consumed-once sh p w es none = go (run sh p w es) (λ s d j. runs-consumed sh p s d j es (begun w))
  where
    go : (x : Option History)
        → ((s d : Node) (j : ℕ) → IfSome x
        (λ g. cond (is_gone g.world s d j) 1 0 ≡ count_by (consumes s d j) (told sh p es (begun w)) + cond (is_gone w s d j) 1 0))
        → IfSome x (λ g. (s d : Node) (j : ℕ)
        → count_by (consumes s d j) (told sh p es (begun w)) ≡ (if is_gone g.world s d j then 1 else 0))
    go None each = tt
    go (Some g) each = λ s d j. omega (arith, each s d j, none-gone w s d j none)
