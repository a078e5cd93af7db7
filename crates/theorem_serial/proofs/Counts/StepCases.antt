-- A step, by the kind of its event: what the vendor gives, what it does to the pairs of a core and a directory and to sums over cores, and
-- what is to be shown of each kind.
use Rattle.rules_tcc.specs.Step.{if_vendor_gives}
use Rattle.rules_tcc.specs.VendorDeliver.{Granted, vendor_deliver}
use Rattle.rules_tcc.proofs.Lemmas.{each-ask}
pub use Rattle.rules_tcc.proofs.Lemmas.{Ask, asking, Asks_tid, gift, Gift, Gives_none, Gives_tid, giving}
unfoldable pub use Rattle.rules_tcc.proofs.Lemmas.{gift_of, gift_sends, next_after}
use Rattle.theorem_serial.proofs
use proofs.Names
use Names.{◌≡◌, ◌≤◌, Bool, true, false, arith, refl, num, ℕ, ◌+◌, ◌<◌, ◌≢◌, List, [], ◌∷◌, ◌++◌, set, Some, None, ap}
use Names.{Msg, sent_all, among, passes, ◌==◌, ◌&&◌, Dir, Shape}
use Names.{nats, moved_by, taken_by, unnoted}
use Names.{eq-self, DirState, from_dir, sym, subst, ◌∙◌, Node, Core, Vendor, TidGrant, World, Out, core_moves, core_takes}
use Names.{dir_takes, dir_asks, vendor_gives, Pair, pair}
use Names.{share, sum_of, Option, IfSome, nat_lt, if◌then◌else◌, Program, Event, Exec, Evict, Deliver, TidReq, in_flight}
use Names.{Sends, nothing, core_exec, core_evict, core_deliver, grant, Answer, Waits, Drops, Asks, Takes, dir_deliver, Stepped, step}
use Names.{if_core_moves, if_core_takes, answered, delivered, if_in_flight, happens, names_nodes, is_node, Grant, grant_for, granted_by}
use Names.{sends_of, sends_for, sent_by, Uses, used_by, Views, uses_executed, uses_delivered, views_after, put, FromCore, FromDir, grant_to}
use Names.{nat_le, AnyGrant, Grants, AsksTid, Contains}
use proofs.Counts.Links.{AllPairs, append-none, differ, either, total-at}

-- What the vendor gives, said of its TIDs.

unfoldable pub gift_grants : Gift → (next core : ℕ) → List Grant
gift_grants Gives_tid n c = grant_to n c ∷ []
gift_grants Gives_none n c = []

pub gift-counts : (g : Gift) (n t : ℕ) → among (Grants t) (gift_of g n) + num (nat_le (next_after g n) t) ≡ num (nat_le n t)
unfolding gift_of next_after among passes
gift-counts Gives_tid n t = grind nats
gift-counts Gives_none n t = omega arith

-- what holds of one grant, and of none
pub per-gift : (g : Gift) (n c : ℕ) (P : List Grant → (next : ℕ) → Type 0) → P (grant_to n c ∷ []) (n + 1) → P [] n
    → P (gift_grants g n c) (next_after g n)
unfolding gift_grants next_after
per-gift Gives_tid n c P one none = one
per-gift Gives_none n c P one none = none

-- a grant of it is of the next TID, to the core that asked
pub gift-tid : (g : Gift) (n t : ℕ) → 1 ≤ among (Grants t) (gift_of g n) → (g ≡ Gives_tid) × (n ≡ t)
unfolding gift_of among passes
gift-tid Gives_tid n t l = (refl, grind nats)
gift-tid Gives_none n t l = absurd (omega arith)

pub gift-is : (g : Gift) (n c : ℕ) (x : Grant) → Contains (gift_grants g n c) x → grant_to n c ≡ x
unfolding gift_grants
gift-is Gives_tid n c x h = grind nats
gift-is Gives_none n c x h = absurd (let l = h.1 in omega arith)

pub gift-gives : (g : Gift) (n c : ℕ) (x : Grant) → Contains (gift_grants g n c) x → g ≡ Gives_tid
unfolding gift_grants
gift-gives Gives_tid n c x h = refl
gift-gives Gives_none n c x h = absurd (let l = h.1 in omega arith)

pub gift-granted : (g : Gift) (n c t : ℕ) → 1 ≤ among (Grants t) (gift_of g n) → Contains (gift_grants g n c) (grant_to t c)
unfolding gift_of gift_grants among passes
gift-granted Gives_tid n c t l = let e : n ≡ t = grind nats in rw (sym e) (0, omega arith, refl)
gift-granted Gives_none n c t l = absurd (omega arith)

-- a TID is given where one was asked for
pub asks-tid : (a : Ask) → gift a ≡ Gives_tid → asking a ≡ TidReq
asks-tid Asks_tid e = refl

pub asks-once : (a : Ask) (n : ℕ) → among AnyGrant (gift_of (gift a) n) ≡ num (passes AsksTid (asking a))
unfolding gift_of among passes
asks-once Asks_tid n = refl

grants-asked : (a : Ask) (n c : ℕ) → gift_grants (gift a) n c ≡ grant_for n c (Some (asking a))
unfolding gift_grants
grants-asked Asks_tid n c = refl

-- What the vendor does to pairs and sums.

-- the state after it has taken message k of core c
abbrev pub gives_to : World → (core k : ℕ) → Ask → World
gives_to w c k a = vendor_gives w c k (giving (gift a) w.next c)

-- the pair of this core, and of another
abbrev pub after_gift : Pair → ℕ → Gift → Pair
after_gift v k g = record v { asks = set v.asks k None; grants = v.grants ++ sent_all (gift_of g v.next); next = next_after g v.next }

abbrev pub after_other_gift : Pair → Gift → Pair
after_other_gift v g = record v { next = next_after g v.next }

vendor-own : (w : World) (c k d : ℕ) (g : Gift) → pair (vendor_gives w c k (giving g w.next c)) c d ≡ after_gift (pair w c d) k g
unfolding pair vendor_gives gift_of gift_sends
vendor-own w c k d Gives_tid = rw (eq-self c)
vendor-own w c k d Gives_none = rw (eq-self c)

vendor-other : (w : World) (c k j d : ℕ) (g : Gift) → j ≢ c
    → pair (vendor_gives w c k (giving g w.next c)) j d ≡ after_other_gift (pair w j d) g
unfolding pair vendor_gives gift_sends sent_all
vendor-other w c k j d Gives_tid h = rw (differ j c h) (rw (append-none (w.net Vendor (Core j))))
vendor-other w c k j d Gives_none h = rw (differ j c h) (rw (append-none (w.net Vendor (Core j))))

pub pairs_vendor : (P : ℕ → ℕ → Pair → Type 0) (w : World) (c k : ℕ) (a : Ask) → ((d : ℕ) → P c d (after_gift (pair w c d) k (gift a)))
    → ((j d : ℕ) → j ≢ c → P j d (after_other_gift (pair w j d) (gift a))) → AllPairs P (gives_to w c k a)
pairs_vendor P w c k a own others j d = either j c (λ e. rw e (subst (P c d) (sym (vendor-own w c k d (gift a))) (own d)))
    (λ h. subst (P j d) (sym (vendor-other w c k j d (gift a) h)) (others j d h))

pub sum_vendor : (f : Pair → ℕ) (n : ℕ) (w : World) (c k : ℕ) (a : Ask) (d x y : ℕ) → c < n
    → f (after_gift (pair w c d) k (gift a)) + x ≡ f (pair w c d) + y
    → ((j : ℕ) → j ≢ c → f (after_other_gift (pair w j d) (gift a)) ≡ f (pair w j d))
    → sum_of f n (gives_to w c k a) d + x ≡ sum_of f n w d + y
unfolding share
sum_vendor f n w c k a d x y l e others =
    omega (
      arith,
      total-at (share f (gives_to w c k a) d) (share f w d) n c l (λ j h. ap f (vendor-other w c k j d (gift a) h) ∙ others j h),
      ap f (vendor-own w c k d (gift a)),
    )

-- What is to be shown of a step, by the kind of its event.

-- R holds of what an answer makes of the world
abbrev pub OfAnswer : World → (core dir k : ℕ) → (World → Type 0) → Answer → Type 0
OfAnswer w c d k R Waits = Unit {0}
OfAnswer w c d k R Drops = R (dir_takes w c d k (w.dirs d) nothing)
OfAnswer w c d k R (Asks s sends) = R (dir_asks w d s sends)
OfAnswer w c d k R (Takes s sends) = R (dir_takes w c d k s sends)

step_answer : (w : World) (c d k : ℕ) (R : Stepped → Type 0) (a : Answer)
    → OfAnswer w c d k (λ v. R (unnoted v)) a → IfSome (answered w c d k a) R
step_answer w c d k R Waits h = tt
step_answer w c d k R _ h = h

step_moved : (w : World) (c : ℕ) (R : Option Out → Stepped → Type 0) (o : Option Out)
    → ((x : Out) → o ≡ Some x → R (Some x) (moved_by w c x)) → IfSome (if_core_moves w c o) (R o)
step_moved w c R None h = tt
step_moved w c R (Some x) h = h x refl

step_taken : (w : World) (src : Node) (c k : ℕ) (R : Sends → Stepped → Type 0) (o : Option Out)
    → ((x : Out) → o ≡ Some x → R x.sends (taken_by w src c k x)) → IfSome (if_core_takes w src c k o) (R (sends_of o))
step_taken w src c k R None h = tt
step_taken w src c k R (Some x) h = h x refl

-- the words that a core's instruction adds to its view
abbrev pub new_uses : Shape → Program → World → ℕ → Uses
new_uses sh p w c = used_by sh.base (w.cores c) (p.need (w.cores c).local)

-- what a directory's answers have to give: with the nodes of the machine, and without
abbrev pub Answering : Shape → World → (World → Type 0) → Type 0
Answering sh w R = (c d k : ℕ) (m : Msg) → c < sh.cores → d < sh.dirs → FromCore w c d k m
    → OfAnswer w c d k R (dir_deliver sh (w.dirs d) c m)

abbrev pub AnsweringAll : Shape → World → (World → Type 0) → Type 0
AnsweringAll sh w R = (c d k : ℕ) (m : Msg) → FromCore w c d k m
    → OfAnswer w c d k R (dir_deliver sh (w.dirs d) c m)

-- G from each kind of event by itself; R takes the views after it, what the event's core sends, what is granted, and the state after it
abbrev pub FromEvents : Shape → Program → World → Views → (Views → Sends → List Grant → Stepped → Type 0) → ((World → Type 0) → Type 0)
    → Type 0 → Type 0
FromEvents sh p w vs R Dirs G = ((c : ℕ) (o : Out) → core_exec sh p c (w.cores c) ≡ Some o → c < sh.cores
    → R (put vs c (uses_executed (Some o) (vs c) (new_uses sh p w c))) o.sends [] (moved_by w c o))
    → ((c x y : ℕ) (o : Out) → core_evict sh x y (w.cores c) ≡ Some o → c < sh.cores → R vs o.sends [] (moved_by w c o))
    → ((c k t : ℕ) → in_flight w.net Vendor (Core c) k ≡ Some (TidGrant t)
    → R (put vs c (vs c)) (grant sh t (w.cores c)).sends []
    (taken_by w Vendor c k (grant sh t (w.cores c))))
    → ((c d k : ℕ) (m : Msg) (o : Out) → from_dir sh d (w.cores c) m ≡ Some o → FromDir w d c k m
    → R (put vs c (uses_delivered (w.cores c) m (vs c))) o.sends [] (taken_by w (Dir d) c k o))
    → Dirs (λ v. R vs nothing [] (unnoted v))
    → ((c k : ℕ) (a : Ask) → in_flight w.net (Core c) Vendor k ≡ Some (asking a)
    → R vs nothing (gift_grants (gift a) w.next c) (unnoted (gives_to w c k a)))
    → G

pub event_cases : (sh : Shape) (p : Program) (w : World) (vs : Views) (e : Event) (R : Views → Sends → List Grant → Stepped → Type 0)
    → FromEvents sh p w vs R (Answering sh w) (IfSome (step sh p w e) (R (views_after sh p w e vs) (sent_by sh p w e) (granted_by w e)))
unfolding step happens names_nodes core_deliver
event_cases sh p w vs (Exec c) R ex ev gr fr di ve = go (nat_lt c sh.cores) refl
  where
    T : Option Out → Stepped → Type 0
    T o = R (put vs c (uses_executed o (vs c) (new_uses sh p w c))) (sends_of o) []

    go : (b : Bool) → nat_lt c sh.cores ≡ b → IfSome (if b then if_core_moves w c (core_exec sh p c (w.cores c)) else None)
        (T (core_exec sh p c (w.cores c)))
    go false q = tt
    go true q = step_moved w c T (core_exec sh p c (w.cores c)) (λ o i. ex c o i (grind nats))
event_cases sh p w vs (Evict c x y) R ex ev gr fr di ve = go (nat_lt c sh.cores) refl (nat_lt x sh.sets && nat_lt y sh.ways)
  where
    go : (b : Bool) → nat_lt c sh.cores ≡ b → (d : Bool)
        → IfSome (if b && d then if_core_moves w c (core_evict sh x y (w.cores c)) else None)
        (R vs (sends_of (core_evict sh x y (w.cores c))) [])
    go true q true = step_moved w c (λ o. R vs (sends_of o) []) (core_evict sh x y (w.cores c)) (λ o i. ev c x y o i (grind nats))
    go true q false = tt
    go false q d = tt
event_cases sh p w vs (Deliver src dst k) R ex ev gr fr di ve = guarded (is_node sh src && is_node sh dst) refl
  where
    vendor_core : (c : ℕ) (m : Msg) → in_flight w.net Vendor (Core c) k ≡ Some m
        → IfSome (delivered sh w Vendor (Core c) k m)
        (R (put vs c (uses_delivered (w.cores c) m (vs c))) (sends_for sh (w.cores c) Vendor (Some m)) [])
    vendor_core c (TidGrant t) q = gr c k t q
    vendor_core c _ q = tt

    given : (c : ℕ) (m : Msg) (g : Option Granted) → in_flight w.net (Core c) Vendor k ≡ Some m
        → IfSome g (λ x. in_flight w.net (Core c) Vendor k ≡ Some m
        → R vs nothing (grant_for w.next c (Some m)) (unnoted (vendor_gives w c k x)))
        → IfSome (if_vendor_gives w c k g) (R vs nothing (grant_for w.next c (Some m)))
    given c m None q h = tt
    given c m (Some x) q h = h q

    core_vendor : (c : ℕ) (m : Msg) → in_flight w.net (Core c) Vendor k ≡ Some m
        → IfSome (delivered sh w (Core c) Vendor k m) (R vs nothing (grant_for w.next c (Some m)))
    core_vendor c m q = given c m (vendor_deliver w.next c m) q (each-ask w.next c
        (λ m x. in_flight w.net (Core c) Vendor k ≡ Some m → R vs nothing (grant_for w.next c (Some m)) (unnoted (vendor_gives w c k x)))
        (λ a i. subst (λ gs. R vs nothing gs (unnoted (gives_to w c k a))) (grants-asked a w.next c) (ve c k a i)) m)

    go : (src dst : Node) (x : Option Msg) → (is_node sh src && is_node sh dst) ≡ true → in_flight w.net src dst k ≡ x
        → IfSome (if_in_flight sh w src dst k x)
        (R (views_after sh p w (Deliver src dst k) vs) (sent_by sh p w (Deliver src dst k)) (granted_by w (Deliver src dst k)))
    go src dst None n q = tt
    go (Dir d) (Core c) (Some m) n q =
        rw q (step_taken w (Dir d) c k (λ x. R (put vs c (uses_delivered (w.cores c) m (vs c))) x []) (from_dir sh d (w.cores c) m)
        (λ o i. fr c d k m o i q))
    go Vendor (Core c) (Some m) n q = rw q (vendor_core c m q)
    go (Core c) (Dir d) (Some m) n q = step_answer w c d k (R vs nothing []) (dir_deliver sh (w.dirs d) c m)
        (di c d k m (grind nats) (grind nats) q)
    go (Core c) Vendor (Some m) n q = rw q (core_vendor c m q)
    go src dst x n q = tt

    guarded : (b : Bool) → (is_node sh src && is_node sh dst) ≡ b
        → IfSome (if b then if_in_flight sh w src dst k (in_flight w.net src dst k) else None)
        (R (views_after sh p w (Deliver src dst k) vs) (sent_by sh p w (Deliver src dst k)) (granted_by w (Deliver src dst k)))
    guarded false n = tt
    guarded true n = go src dst (in_flight w.net src dst k) n refl

-- the same where the views don't matter
pub node_cases : (sh : Shape) (p : Program) (w : World) (e : Event) (R : Sends → List Grant → Stepped → Type 0)
    → FromEvents sh p w (λ c. []) (λ v. R) (Answering sh w) (IfSome (step sh p w e) (R (sent_by sh p w e) (granted_by w e)))
node_cases sh p w e R = event_cases sh p w (λ c. []) e (λ v. R)

-- nor the node that a directory hears
pub sent_cases : (sh : Shape) (p : Program) (w : World) (e : Event) (R : Sends → List Grant → Stepped → Type 0)
    → FromEvents sh p w (λ c. []) (λ v. R) (AnsweringAll sh w) (IfSome (step sh p w e) (R (sent_by sh p w e) (granted_by w e)))
sent_cases sh p w e R ex ev gr fr di ve = node_cases sh p w e R ex ev gr fr (λ c d k m a b i. di c d k m i) ve

-- nor what is sent
pub step_cases : (sh : Shape) (p : Program) (w : World) (e : Event) (R : List Grant → Stepped → Type 0)
    → FromEvents sh p w (λ c. []) (λ v x. R) (AnsweringAll sh w) (IfSome (step sh p w e) (R (granted_by w e)))
step_cases sh p w e R = sent_cases sh p w e (λ x. R)

-- what holds of each directory, where each answer leaves it so
abbrev pub Leaves : (DirState → Type 0) → Answer → Type 0
Leaves P (Asks new sends) = P new
Leaves P (Takes new sends) = P new
Leaves P _ = Unit {0}

pub dirs_step : (sh : Shape) (p : Program) (w : World) (e : Event) (P : DirState → Type 0) → ((d : ℕ) → P (w.dirs d))
    → ((c d k : ℕ) (m : Msg) → FromCore w c d k m → Leaves P (dir_deliver sh (w.dirs d) c m))
    → IfSome (step sh p w e) (λ o. (d : ℕ) → P (o.world.dirs d))
unfolding core_moves core_takes dir_takes dir_asks vendor_gives
dirs_step sh p w e P h f = step_cases sh p w e (λ g o. (d : ℕ) → P (o.world.dirs d)) (λ c o eq l. h) (λ c x y o eq l. h)
    (λ c k t i. h) (λ c d k m o eq i. h) (λ c d k m i. answered c d k (dir_deliver sh (w.dirs d) c m) (f c d k m i)) (λ c k a i. h)
  where
    at : (s : DirState) (x : ℕ) → P s → (b : Bool) → P (if b then s else w.dirs x)
    at s x u true = u
    at s x u false = h x

    answered : (c d k : ℕ) (a : Answer) → Leaves P a → OfAnswer w c d k (λ v. (x : ℕ) → P (v.dirs x)) a
    answered c d k Waits u = tt
    answered c d k Drops u = λ x. at (w.dirs d) x (h d) (x == d)
    answered c d k (Asks s sends) u = λ x. at s x u (x == d)
    answered c d k (Takes s sends) u = λ x. at s x u (x == d)
