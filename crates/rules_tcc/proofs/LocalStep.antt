-- One entry of a log is one event of the machine, at its node.
use Rattle.std.proofs.Common.{◌≡◌, ℕ, ◌<◌, ◌≤◌, Bool, true, false, not, cond, ◌&&◌, List, [], ◌∷◌, ◌++◌, length, Option, Some, None}
use Rattle.std.proofs.Common.{append_assoc, append-nil, refl, ap, sym, ◌∙◌, subst, arith}
use Rattle.std.specs.Prelude.{slice_get}
use Rattle.std.proofs.lemmas.Bool.Decides.{nat_tests}
use Rattle.tcc_base.specs.Put.{put}
use Rattle.base_lemmas.proofs.Lemmas.{and-left, and-right, not-false}
use Rattle.rules_program.specs.Program.{Program}
use Rattle.rules_maps.specs.Nodes.{Node, Core, Dir, Vendor, Msg, Event, Exec, Evict, Deliver, node_eq}
use Rattle.rules_maps.specs.Shape.{Shape}
use Rattle.rules_tcc.specs.State.{World}
use Rattle.rules_tcc.specs.Links.{in_flight, sent_all}
use Rattle.rules_tcc.specs.Attempt.{Out}
use Rattle.rules_tcc.specs.CoreExec.{core_exec}
use Rattle.rules_tcc.specs.CoreEvict.{core_evict}
use Rattle.rules_tcc.specs.CoreDeliver.{core_deliver}
use Rattle.rules_tcc.specs.DirDeliver.{Answer, Waits, Drops, Asks, Takes, dir_deliver}
use Rattle.rules_tcc.specs.VendorDeliver.{Granted, vendor_deliver}
use Rattle.rules_tcc.specs.Step.{Stepped, core_moves, core_takes, dir_takes, dir_asks, vendor_gives, if_core_moves, if_core_takes, answered}
use Rattle.rules_tcc.specs.Step.{if_vendor_gives, delivered, if_in_flight, names_nodes, happens, step}
use Rattle.rules_tcc.specs.Local.{NodeState, AtCore, AtDir, AtVendor, state_at, Entry, Acted, acted, answer_acted, grant_acted, takes, act}
use Rattle.rules_tcc.specs.Local.{Mail, mailed, Side, is_gone, consumed, side_after, local_step, side_then, local, at_node}
use Rattle.rules_tcc.specs.Merged.{Each}
use Rattle.rules_tcc.proofs.Mailed.{net_before}

-- what an event did at its node and on the links
pub record IsApplied (w : World) (ev : Event) (a : Acted) (v : World) : Type 0 where
  pub here : state_at v (at_node ev) ≡ a.state
  pub net : (s d : Node) → v.net s d ≡ cond (node_eq s (at_node ev)) (net_before w.net ev a.consumes s d ++ sent_all (a.sends d))
      (net_before w.net ev a.consumes s d)

-- where the node acts so does the machine
abbrev pub Match : World → Event → Option Acted → Option Stepped → Type 0
Match w ev None o = Unit {0}
Match w ev (Some a) None = ⊥
Match w ev (Some a) (Some t) = IsApplied w ev a t.world

put-same : {A : Type 0} (f : ℕ → A) (i : ℕ) (v : A) → put f i v i ≡ v
put-same f i v = grind (arith, nat_tests)

exec-match : (w : World) (c : ℕ) (o : Option Out) → Match w (Exec c) (acted false o) (if_core_moves w c o)
unfolding core_moves
exec-match w c None = tt
exec-match w c (Some o) = record { here = ap AtCore (put-same w.cores c o.core); net = λ s d. refl }

evict-match : (w : World) (c x y : ℕ) (o : Option Out) → Match w (Evict c x y) (acted false o) (if_core_moves w c o)
unfolding core_moves
evict-match w c x y None = tt
evict-match w c x y (Some o) = record { here = ap AtCore (put-same w.cores c o.core); net = λ s d. refl }

taken-match : (w : World) (src : Node) (c k : ℕ) (o : Option Out) →
    Match w (Deliver src (Core c) k) (acted true o) (if_core_takes w src c k o)
unfolding core_takes
taken-match w src c k None = tt
taken-match w src c k (Some o) = record { here = ap AtCore (put-same w.cores c o.core); net = λ s d. refl }

answer-match : (w : World) (c d k : ℕ) (a : Answer) → Match w (Deliver (Core c) (Dir d) k) (answer_acted (w.dirs d) a) (answered w c d k a)
unfolding dir_takes dir_asks
answer-match w c d k Waits = tt
answer-match w c d k Drops = record { here = ap AtDir (put-same w.dirs d (w.dirs d)); net = λ s e. refl }
answer-match w c d k (Takes t sends) = record { here = ap AtDir (put-same w.dirs d t); net = λ s e. refl }
answer-match w c d k (Asks t sends) = record { here = ap AtDir (put-same w.dirs d t); net = λ s e. refl }

grant-match : (w : World) (c k : ℕ) (g : Option Granted) → Match w (Deliver (Core c) Vendor k) (grant_acted g) (if_vendor_gives w c k g)
unfolding vendor_gives
grant-match w c k None = tt
grant-match w c k (Some g) = record { here = refl; net = λ s d. refl }

takes-match : (sh : Shape) (w : World) (src dst : Node) (k : ℕ) (m : Msg)
    → Match w (Deliver src dst k) (takes sh (state_at w dst) src (Some m)) (delivered sh w src dst k m)
takes-match sh w src (Core c) k m = taken-match w src c k (core_deliver sh (w.cores c) src m)
takes-match sh w (Core c) (Dir d) k m = answer-match w c d k (dir_deliver sh (w.dirs d) c m)
takes-match sh w (Core c) Vendor k m = grant-match w c k (vendor_deliver w.next c m)
takes-match sh w (Dir e) (Dir d) k m = tt
takes-match sh w Vendor (Dir d) k m = tt
takes-match sh w (Dir e) Vendor k m = tt
takes-match sh w Vendor Vendor k m = tt

-- the message is in flight, and the entry stores it
abbrev pub IsHeld : World → Entry → Event → Type 0
IsHeld w e (Deliver src dst k) = (m : Msg) × (e.msg ≡ Some m) × (in_flight w.net src dst k ≡ Some m)
IsHeld w e (Exec c) = Unit {0}
IsHeld w e (Evict c x y) = Unit {0}

deliver-match : (sh : Shape) (p : Program) (w : World) (src dst : Node) (k : ℕ) (o q : Option Msg) (m : Msg) → o ≡ Some m → q ≡ Some m
    → Match w (Deliver src dst k) (takes sh (state_at w dst) src o) (if_in_flight sh w src dst k q)
deliver-match sh p w src dst k o q m e f = rw (e, f) (takes-match sh w src dst k m)

takes-act : (sh : Shape) (p : Program) (s : NodeState) (src dst : Node) (k : ℕ) (o : Option Msg)
    → act sh p s (Deliver src dst k) o ≡ takes sh s src o
takes-act sh p (AtCore s) src dst k o = refl
takes-act sh p (AtDir s) src dst k o = refl
takes-act sh p (AtVendor s) src dst k o = refl

happens-match : (sh : Shape) (p : Program) (w : World) (e : Entry) (ev : Event) → IsHeld w e ev
    → Match w ev (act sh p (state_at w (at_node ev)) ev e.msg) (happens sh p w ev)
unfolding happens
happens-match sh p w e (Exec c) h = exec-match w c (core_exec sh p c (w.cores c))
happens-match sh p w e (Evict c x y) h = evict-match w c x y (core_evict sh x y (w.cores c))
happens-match sh p w e (Deliver src dst k) h =
    rw (takes-act sh p (state_at w dst) src dst k e.msg) (deliver-match sh p w src dst k e.msg (in_flight w.net src dst k) h.0 h.1 h.2)

match-if : (w : World) (ev : Event) (oa : Option Acted) (b : Bool) (o : Option Stepped) → b ≡ true → Match w ev oa o
    → Match w ev oa (cond b o None)
match-if w ev oa b o e h = rw e h

pub step-match : (sh : Shape) (p : Program) (w : World) (e : Entry) (ev : Event) → names_nodes sh ev ≡ true → IsHeld w e ev
    → Match w ev (act sh p (state_at w (at_node ev)) ev e.msg) (step sh p w ev)
unfolding step
step-match sh p w e ev n h = match-if w ev (act sh p (state_at w (at_node ev)) ev e.msg) (names_nodes sh ev) (happens sh p w ev) n
    (happens-match sh p w e ev h)

-- what a step of a local run says
pub record Stepping (sh : Shape) (p : Program) (n : Node) (e : Entry) (s t : Side) : Type 0 where
  pub at : node_eq (at_node e.event) n ≡ true
  pub named : names_nodes sh e.event ≡ true
  pub fresh : is_gone s.gone e.event ≡ false
  pub did : Acted
  pub acts : act sh p s.state e.event e.msg ≡ Some did
  pub state : t.state ≡ did.state
  pub sent : (d : Node) → t.sent d ≡ s.sent d ++ mailed e.stamp (did.sends d)
  pub gone : (q : Node) (j : ℕ) → t.gone q j ≡ consumed did.consumes e.event s.gone q j

stepping_in : (sh : Shape) (p : Program) (n : Node) (e : Entry) (s t : Side) (o : Option Acted) → act sh p s.state e.event e.msg ≡ o →
    node_eq (at_node e.event) n ≡ true → names_nodes sh e.event ≡ true → is_gone s.gone e.event ≡ false → side_after e s o ≡ Some t
    → Stepping sh p n e s t
stepping_in sh p n e s t None q a b c h = absurd (cc)
stepping_in sh p n e s t (Some d) q a b c h = subst (λ (x : Option Side). IsSteppingTo x) h (record {
  at = a;
  named = b;
  fresh = c;
  did = d;
  acts = q;
  state = refl;
  sent = λ m. refl;
  gone = λ m j. refl;
})
  where
    IsSteppingTo : Option Side → Type 0
    IsSteppingTo None = ⊥
    IsSteppingTo (Some u) = Stepping sh p n e s u

stepping_if : (sh : Shape) (p : Program) (n : Node) (e : Entry) (s t : Side) (b : Bool)
    → (node_eq (at_node e.event) n && (names_nodes sh e.event && not (is_gone s.gone e.event))) ≡ b →
    cond b (side_after e s (act sh p s.state e.event e.msg)) None ≡ Some t → Stepping sh p n e s t
stepping_if sh p n e s t false q h = absurd (cc)
stepping_if sh p n e s t true q h =
    let r = and-right (node_eq (at_node e.event) n) (names_nodes sh e.event && not (is_gone s.gone e.event)) q in
    stepping_in sh p n e s t (act sh p s.state e.event e.msg) refl
    (and-left (node_eq (at_node e.event) n) (names_nodes sh e.event && not (is_gone s.gone e.event)) q)
    (and-left (names_nodes sh e.event) (not (is_gone s.gone e.event)) r)
    (not-false (is_gone s.gone e.event) (and-right (names_nodes sh e.event) (not (is_gone s.gone e.event)) r))
    h

stepping : (sh : Shape) (p : Program) (n : Node) (e : Entry) (s t : Side) → local_step sh p n e s ≡ Some t → Stepping sh p n e s t
unfolding local_step
stepping sh p n e s t h = stepping_if sh p n e s t (node_eq (at_node e.event) n && (names_nodes sh e.event && not (is_gone s.gone e.event)))
    refl h

-- a local run begins with a step
pub record Begins (sh : Shape) (p : Program) (n : Node) (e : Entry) (es : List Entry) (s f : Side) : Type 0 where
  pub then : Side
  pub step : Stepping sh p n e s then
  pub rest : local sh p n es then ≡ Some f

begins_in : (sh : Shape) (p : Program) (n : Node) (e : Entry) (es : List Entry) (s f : Side) (o : Option Side) → local_step sh p n e s ≡ o
    → side_then (local sh p n es) o ≡ Some f → Begins sh p n e es s f
begins_in sh p n e es s f None q h = absurd (cc)
begins_in sh p n e es s f (Some t) q h = record { then = t; step = stepping sh p n e s t q; rest = h }

pub begins : (sh : Shape) (p : Program) (n : Node) (e : Entry) (es : List Entry) (s f : Side) → local sh p n (e ∷ es) s ≡ Some f
    → Begins sh p n e es s f
unfolding local
begins sh p n e es s f h = begins_in sh p n e es s f (local_step sh p n e s) refl h

-- what is sent from some entry on has its stamp at least
abbrev pub Late : ℕ → List Mail → Type 0
Late t [] = Unit {0}
Late t (m ∷ ms) = (t ≤ m.stamp) × Late t ms

late-append : (t : ℕ) (xs ys : List Mail) → Late t xs → Late t ys → Late t (xs ++ ys)
late-append t [] ys h k = k
late-append t (x ∷ xs) ys h k = (h.0, late-append t xs ys h.1 k)

late-mailed : (t u : ℕ) (ms : List Msg) → t ≤ u → Late t (mailed u ms)
unfolding mailed
late-mailed t u [] h = tt
late-mailed t u (m ∷ ms) h = (h, late-mailed t u ms h)

pub record More (t : ℕ) (old new : List Mail) : Type 0 where
  pub more : List Mail
  pub is : new ≡ old ++ more
  pub late : Late t more

local-nil : (sh : Shape) (p : Program) (n : Node) (s f : Side) → local sh p n [] s ≡ Some f → s ≡ f
unfolding local
local-nil sh p n s f h = cc

pub sent-later : (sh : Shape) (p : Program) (n d : Node) (t : ℕ) (es : List Entry) (s f : Side) → Each (λ e. t ≤ e.stamp) es
    → local sh p n es s ≡ Some f → More t (s.sent d) (f.sent d)
sent-later sh p n d t [] s f a h = let e = local-nil sh p n s f h in
    record { more = []; is = ap (λ (x : Side). x.sent d) (sym e) ∙ sym (append-nil (s.sent d)); late = tt }
sent-later sh p n d t (e ∷ es) s f a h =
    let b = begins sh p n e es s f h in
    let r = sent-later sh p n d t es b.then f a.1 b.rest in
    record {
      more = mailed e.stamp (b.step.did.sends d) ++ r.more;
      is = r.is ∙ (ap (λ l. l ++ r.more) (b.step.sent d) ∙ append_assoc (s.sent d) (mailed e.stamp (b.step.did.sends d)) r.more);
      late = late-append t (mailed e.stamp (b.step.did.sends d)) r.more (late-mailed t e.stamp (b.step.did.sends d) a.0) r.late;
    }

late-get : (t : ℕ) (ms : List Mail) (k : ℕ) (m : Mail) → Late t ms → slice_get ms k ≡ Some m → t ≤ m.stamp
late-get t [] k m h e = absurd (cc)
late-get t (x ∷ ms) ℕ.zero m h e = let i : x ≡ m = cc in subst (λ (y : Mail). t ≤ y.stamp) i h.0
late-get t (x ∷ ms) (ℕ.suc k) m h e = late-get t ms k m h.1 e

-- an earlier message is among those that were sent before
pub sent-earlier : (t : ℕ) (old more : List Mail) (k : ℕ) (m : Mail) → Late t more → m.stamp < t → slice_get (old ++ more) k ≡ Some m
    → slice_get old k ≡ Some m
sent-earlier t [] more k m h l e = absurd (let i = late-get t more k m h e in omega arith)
sent-earlier t (x ∷ old) more ℕ.zero m h l e = e
sent-earlier t (x ∷ old) more (ℕ.suc k) m h l e = sent-earlier t old more k m h l e

pub get-below : (ms : List Mail) (k : ℕ) (m : Mail) → slice_get ms k ≡ Some m → k < length ms
get-below [] k m e = absurd (cc)
get-below (x ∷ ms) ℕ.zero m e = omega arith
get-below (x ∷ ms) (ℕ.suc k) m e = let i = get-below ms k m e in omega arith
