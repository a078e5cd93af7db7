-- Along every run each core's attempt follows from its view, and its marks fit it.
use Rattle.std.proofs.Common.{ℕ, Bool, true, false, cond, List, [], ◌∷◌, ◌++◌, Option, Some, None, ◌≡◌, refl, subst, arith}
use Rattle.std.specs.Prelude.{IfSome, ◌==◌}
use Rattle.std.proofs.lemmas.Bool.Decides.{nat_tests}
use Rattle.tcc_base.specs.Put.{put}
use Rattle.rules_program.specs.Program.{Local, Program}
use Rattle.rules_maps.specs.Cache.{empty_cache}
use Rattle.rules_maps.specs.Nodes.{Node, Core, Dir, Vendor, Msg, Event, Exec, Evict, Deliver}
use Rattle.rules_maps.specs.Shape.{Shape}
use Rattle.rules_maps.specs.Spilled.{none_spilled}
use Rattle.rules_tcc.specs.State.{CoreState, World, core_start, start}
use Rattle.rules_tcc.specs.Links.{in_flight}
use Rattle.rules_tcc.specs.Attempt.{Out}
use Rattle.rules_tcc.specs.CoreExec.{core_exec}
use Rattle.rules_tcc.specs.CoreEvict.{core_evict}
use Rattle.rules_tcc.specs.CoreDeliver.{core_deliver}
use Rattle.rules_tcc.specs.DirDeliver.{Answer, Waits, Drops, Asks, Takes, dir_deliver}
use Rattle.rules_tcc.specs.VendorDeliver.{Granted, vendor_deliver}
use Rattle.rules_tcc.specs.Step.{Stepped, History, core_moves, core_takes, dir_takes, dir_asks, vendor_gives, if_core_moves, if_core_takes}
use Rattle.rules_tcc.specs.Step.{answered, if_vendor_gives, delivered, if_in_flight, names_nodes, happens, step, recorded, and_noted}
use Rattle.rules_tcc.specs.Step.{next_history, and_then, run_from, run}
use Rattle.theorem_attempt.specs.Follows.{Fits, Uses, sees, Follows, used_by}
use Rattle.theorem_attempt.specs.Marks.{MarksFit, AttemptFits, AttemptsFit}
use Rattle.theorem_attempt.specs.Views.{Views, no_views, uses_after, uses_executed, uses_delivered, views_delivered, views_after}
use Rattle.theorem_attempt.specs.Views.{then_views}
use Rattle.theorem_attempt.specs.Views.{views_from}
use Rattle.rules_tcc.proofs.Lemmas.{if-step}
use Rattle.theorem_attempt.proofs.SoundDeliver.{AllSound, step-sound, start-sound}
use Rattle.theorem_attempt.proofs.FollowsExec.{fresh-claims, core_exec-follows}
use Rattle.theorem_attempt.proofs.Marks.{none-used, core_exec-fit}
use Rattle.theorem_attempt.proofs.MarksDeliver.{core_evict-fit, core_deliver-fit}
use Rattle.theorem_attempt.proofs.FollowsDeliver.{core_evict-follows, core_deliver-follows}

-- each core's attempt fits its view
abbrev pub AllFollow : Shape → Program → (ℕ → CoreState) → Views → Type 0
AllFollow sh p cores vs = (c : ℕ) → AttemptFits sh p (cores c) (vs c)

put-follow : (sh : Shape) (p : Program) (cores : ℕ → CoreState) (vs : Views) (c : ℕ) (s : CoreState) (us : Uses) → AllFollow sh p cores vs
    → AttemptFits sh p s us → AllFollow sh p (put cores c s) (put vs c us)
put-follow sh p cores vs c s us h k i = at (i == c)
  where
    at : (b : Bool) → AttemptFits sh p (cond b s (cores i)) (cond b us (vs i))
    at true = k
    at false = h i

-- the attempt that an event of a core leaves fits these uses
abbrev pub OutAttempt : Shape → Program → Option Out → (Out → Uses) → Type 0
OutAttempt sh p o us = IfSome o (λ t. AttemptFits sh p t.core (us t))

both-fit : (sh : Shape) (p : Program) (o : Option Out) (us : Out → Uses) → IfSome o (λ t. Follows sh p t.core (us t))
    → IfSome o (λ t. MarksFit sh t.core (us t)) → OutAttempt sh p o us
both-fit sh p None us h k = tt
both-fit sh p (Some o) us h k = record { follows = h; marks = k }

executed-follow : (sh : Shape) (p : Program) (w : World) (vs : Views) (c : ℕ) (new : Uses) (o : Option Out) → AllFollow sh p w.cores vs
    → OutAttempt sh p o (λ t. uses_after t (vs c ++ new))
    → IfSome (if_core_moves w c o) (λ t. AllFollow sh p t.world.cores (put vs c (uses_executed o (vs c) new)))
unfolding core_moves
executed-follow sh p w vs c new None h k = tt
executed-follow sh p w vs c new (Some o) h k = put-follow sh p w.cores vs c o.core (uses_after o (vs c ++ new)) h k

evicted-follow : (sh : Shape) (p : Program) (w : World) (vs : Views) (c : ℕ) (o : Option Out) → AllFollow sh p w.cores vs
    → OutAttempt sh p o (λ t. vs c) → IfSome (if_core_moves w c o) (λ t. AllFollow sh p t.world.cores vs)
unfolding core_moves
evicted-follow sh p w vs c None h k = tt
evicted-follow sh p w vs c (Some o) h k = λ i. at i (i == c) refl
  where
    at : (i : ℕ) (b : Bool) → (i == c) ≡ b → AttemptFits sh p (cond b o.core (w.cores i)) (vs i)
    at i true e = let same : c ≡ i = grind (arith, nat_tests) in subst (λ j. AttemptFits sh p o.core (vs j)) same k
    at i false e = h i

taken-follow : (sh : Shape) (p : Program) (w : World) (vs : Views) (src : Node) (c k : ℕ) (us : Uses) (o : Option Out)
    → AllFollow sh p w.cores vs → OutAttempt sh p o (λ t. us)
    → IfSome (if_core_takes w src c k o) (λ t. AllFollow sh p t.world.cores (put vs c us))
unfolding core_takes
taken-follow sh p w vs src c k us None h i = tt
taken-follow sh p w vs src c k us (Some o) h i = put-follow sh p w.cores vs c o.core us h i

answered-follow : (sh : Shape) (p : Program) (w : World) (vs : Views) (c d k : ℕ) (a : Answer) → AllFollow sh p w.cores vs
    → IfSome (answered w c d k a) (λ t. AllFollow sh p t.world.cores vs)
unfolding dir_takes dir_asks
answered-follow sh p w vs c d k Waits h = tt
answered-follow sh p w vs c d k Drops h = h
answered-follow sh p w vs c d k (Asks s sends) h = h
answered-follow sh p w vs c d k (Takes s sends) h = h

granted-follow : (sh : Shape) (p : Program) (w : World) (vs : Views) (c k : ℕ) (g : Option Granted) → AllFollow sh p w.cores vs
    → IfSome (if_vendor_gives w c k g) (λ t. AllFollow sh p t.world.cores vs)
unfolding vendor_gives
granted-follow sh p w vs c k None h = tt
granted-follow sh p w vs c k (Some g) h = h

delivered-follow : (sh : Shape) (p : Program) (w : World) (vs : Views) (src dst : Node) (k : ℕ) (m : Msg) → AllSound sh w.cores
    → AllFollow sh p w.cores vs
    → IfSome (delivered sh w src dst k m) (λ t. AllFollow sh p t.world.cores (views_delivered w.cores dst (Some m) vs))
delivered-follow sh p w vs src (Core c) k m s h = taken-follow sh p w vs src c k (uses_delivered (w.cores c) m (vs c))
    (core_deliver sh (w.cores c) src m) h
    (both-fit sh p (core_deliver sh (w.cores c) src m) (λ t. uses_delivered (w.cores c) m (vs c))
    (core_deliver-follows sh p (w.cores c) (vs c) src m (s c) (h c).follows) (core_deliver-fit sh (w.cores c) (vs c) src m (h c).marks))
delivered-follow sh p w vs (Core c) (Dir d) k m s h = answered-follow sh p w vs c d k (dir_deliver sh (w.dirs d) c m) h
delivered-follow sh p w vs (Core c) Vendor k m s h = granted-follow sh p w vs c k (vendor_deliver w.next c m) h
delivered-follow sh p w vs (Dir e) (Dir d) k m s h = tt
delivered-follow sh p w vs Vendor (Dir d) k m s h = tt
delivered-follow sh p w vs (Dir e) Vendor k m s h = tt
delivered-follow sh p w vs Vendor Vendor k m s h = tt

flight-follow : (sh : Shape) (p : Program) (w : World) (vs : Views) (src dst : Node) (k : ℕ) (o : Option Msg) → AllSound sh w.cores
    → AllFollow sh p w.cores vs
    → IfSome (if_in_flight sh w src dst k o) (λ t. AllFollow sh p t.world.cores (views_delivered w.cores dst o vs))
flight-follow sh p w vs src dst k None s h = tt
flight-follow sh p w vs src dst k (Some m) s h = delivered-follow sh p w vs src dst k m s h

happens-follow : (sh : Shape) (p : Program) (w : World) (vs : Views) (e : Event) → Fits p → AllSound sh w.cores → AllFollow sh p w.cores vs
    → IfSome (happens sh p w e) (λ t. AllFollow sh p t.world.cores (views_after sh p w e vs))
unfolding happens
happens-follow sh p w vs (Exec c) f s h =
    let new : Uses = used_by sh.base (w.cores c) (p.need (w.cores c).local) in
    executed-follow sh p w vs c new (core_exec sh p c (w.cores c)) h
    (both-fit sh p (core_exec sh p c (w.cores c)) (λ t. uses_after t (vs c ++ new))
    (core_exec-follows sh p c (w.cores c) (vs c) f (s c) (h c).follows) (core_exec-fit sh p c (w.cores c) (vs c) (s c) (h c).marks))
happens-follow sh p w vs (Evict c x y) f s h = evicted-follow sh p w vs c (core_evict sh x y (w.cores c)) h
    (both-fit sh p (core_evict sh x y (w.cores c)) (λ t. vs c) (core_evict-follows sh p x y (w.cores c) (vs c) (s c) (h c).follows)
    (core_evict-fit sh x y (w.cores c) (vs c) (h c).marks))
happens-follow sh p w vs (Deliver src dst k) f s h = flight-follow sh p w vs src dst k (in_flight w.net src dst k) s h

pub step-follow : (sh : Shape) (p : Program) (w : World) (vs : Views) (e : Event) → Fits p → AllSound sh w.cores → AllFollow sh p w.cores vs
    → IfSome (step sh p w e) (λ t. AllFollow sh p t.world.cores (views_after sh p w e vs))
unfolding step
step-follow sh p w vs e f s h = if-step (names_nodes sh e) (happens sh p w e) (λ t. AllFollow sh p t.world.cores (views_after sh p w e vs))
    (happens-follow sh p w vs e f s h)

run-step-follow : (sh : Shape) (p : Program) (es : List Event) (h : History) (vs new : Views) (o : Option Stepped)
    → IfSome o (λ t. AllSound sh t.world.cores) → IfSome o (λ t. AllFollow sh p t.world.cores new) →
    ((g : History) → AllSound sh g.world.cores → AllFollow sh p g.world.cores new
    → IfSome (run_from sh p es g) (λ x. AllFollow sh p x.world.cores (views_from sh p es new g)))
    → IfSome (and_then (run_from sh p es) (recorded h o))
    (λ x. AllFollow sh p x.world.cores (then_views vs (views_from sh p es new) (recorded h o)))
run-step-follow sh p es h vs new None s k f = tt
run-step-follow sh p es h vs new (Some t) s k f = f (record { world = t.world; commits = and_noted t.noted h.commits }) s k

run_from-follow : (sh : Shape) (p : Program) (es : List Event) (h : History) (vs : Views) → Fits p → AllSound sh h.world.cores
    → AllFollow sh p h.world.cores vs → IfSome (run_from sh p es h) (λ x. AllFollow sh p x.world.cores (views_from sh p es vs h))
unfolding run_from next_history views_from
run_from-follow sh p [] h vs f s k = k
run_from-follow sh p (e ∷ es) h vs f s k = run-step-follow sh p es h vs (views_after sh p h.world e vs) (step sh p h.world e)
    (step-sound sh p h.world e s) (step-follow sh p h.world vs e f s k)
    (λ g a b. run_from-follow sh p es g (views_after sh p h.world e vs) f a b)

pub start-follows : (sh : Shape) (p : Program) (local : Local) → Follows sh p (core_start local) []
unfolding core_start none_spilled empty_cache sees
start-follows sh p local =
    record {
      ends = refl;
      steps = fresh-claims sh p (core_start local)
          (record { n = refl; local = refl; loads = refl; stores = refl; console = refl; ended = refl; words = λ ram v. refl });
    }

start-marks : (sh : Shape) (local : Local) → MarksFit sh (core_start local) []
unfolding core_start empty_cache
start-marks sh local = record {
  stand = tt;
  used = none-used (core_start local).cache (λ v. refl);
  awaits = λ i. refl;
  owes = λ d h. absurd (cc);
}

pub attempts-fit : AttemptsFit
unfolding run start
attempts-fit sh p entries ram es f = run_from-follow sh p es (record { world = start entries ram; commits = [] }) no_views f
    (λ c. start-sound sh (entries c)) (λ c. record { follows = start-follows sh p (entries c); marks = start-marks sh (entries c) })
