-- The list of useful events: it holds each, in the stated order, and none in a done state.
use Rattle.std.proofs.Common.{◌≡◌, ℕ, suc, zero, ◌<◌, Bool, true, false, cond, ◌&&◌, inl, inr, ⊎_elim, List, [], ◌∷◌, ◌++◌, map, length}
use Rattle.std.proofs.Common.{get_or, Option, Some, None, is_some, refl, arith}
use Rattle.std.specs.Prelude.{◌↔◌, nat_lt, IsSome}
use Rattle.std.specs.List.{flat_map, filter}
use Rattle.std.proofs.lemmas.Bool.Decides.{nat_tests}
use Rattle.base_lemmas.proofs.Lemmas.{and-left, and-right, lt-from, node_eq-refl}
use Rattle.rules_program.specs.Program.{Program}
use Rattle.rules_maps.specs.Words.{those}
use Rattle.rules_maps.specs.Nodes.{Node, Core, Dir, Vendor, Msg, Event, Exec, Evict, Deliver}
use Rattle.rules_maps.specs.Shape.{Shape}
use Rattle.rules_tcc.specs.State.{World, Link}
use Rattle.rules_tcc.specs.Links.{in_flight}
use Rattle.rules_tcc.specs.Step.{Stepped, if_in_flight, is_node, names_nodes, happens, step, is_enabled}
use Rattle.rules_tcc.specs.Useful.{is_useful, is_of_use, nodes, execs, evicts, delivers, useful, node_before, event_before}
use Rattle.rules_tcc.specs.Laws.{IsIn, IsBeforeAll, IsOrdered}
use Rattle.rules_tcc.proofs.Ordered.{Every, Ordered, Among, every-append, every-weaken, every-map, every-all, every-flat, ordered-append}
use Rattle.rules_tcc.proofs.Ordered.{ordered-map, ordered-flat, ordered-filter, ordered-numbers, among-left, among-right, among-map}
use Rattle.rules_tcc.proofs.Ordered.{among-flat, among-filter, filter-among, among-numbers}

ordered-execs : (sh : Shape) → Ordered event_before (execs sh)
unfolding execs
ordered-execs sh = ordered-map nat_lt event_before Exec (those (λ k. true) sh.cores) (λ x y e. e) (ordered-numbers sh.cores)

-- an Evict of this core, of this set of it
abbrev EvictOf : ℕ → Event → Type 0
EvictOf c (Exec d) = ⊥
EvictOf c (Evict d x y) = d ≡ c
EvictOf c (Deliver s t k) = ⊥

abbrev EvictAt : ℕ → ℕ → Event → Type 0
EvictAt c x (Exec d) = ⊥
EvictAt c x (Evict d u y) = (d ≡ c) × (u ≡ x)
EvictAt c x (Deliver s t k) = ⊥

ways-before : (c x y z : ℕ) → nat_lt y z ≡ true → event_before (Evict c x y) (Evict c x z) ≡ true
ways-before c x y z e = grind (arith, nat_tests)

sets-before : (c x u : ℕ) (a b : Event) → nat_lt x u ≡ true → EvictAt c x a → EvictAt c u b → event_before a b ≡ true
sets-before c x u (Exec d) b e p q = absurd p
sets-before c x u (Deliver s t k) b e p q = absurd p
sets-before c x u (Evict d v y) (Exec i) e p q = absurd q
sets-before c x u (Evict d v y) (Deliver s t k) e p q = absurd q
sets-before c x u (Evict d v y) (Evict i w z) e p q = grind (arith, nat_tests)

cores-before : (c d : ℕ) (a b : Event) → nat_lt c d ≡ true → EvictOf c a → EvictOf d b → event_before a b ≡ true
cores-before c d (Exec i) b e p q = absurd p
cores-before c d (Deliver s t k) b e p q = absurd p
cores-before c d (Evict i v y) (Exec j) e p q = absurd q
cores-before c d (Evict i v y) (Deliver s t k) e p q = absurd q
cores-before c d (Evict i v y) (Evict j w z) e p q = grind (arith, nat_tests)

of-at : (c x : ℕ) (a : Event) → EvictAt c x a → EvictOf c a
of-at c x (Exec d) p = absurd p
of-at c x (Evict d u y) p = p.0
of-at c x (Deliver s t k) p = absurd p

ways-at : (c x n : ℕ) → Every (EvictAt c x) (map (Evict c x) (those (λ k. true) n))
ways-at c x n =
    every-map (EvictAt c x) (Evict c x) (those (λ k. true) n)
    (every-all (λ y. EvictAt c x (Evict c x y)) (those (λ k. true) n) (λ y. (refl, refl)))

sets-of : (c n m : ℕ) → Every (EvictOf c) (flat_map (λ x. map (Evict c x) (those (λ k. true) m)) (those (λ k. true) n))
sets-of c n m = every-flat (EvictOf c) (λ x. map (Evict c x) (those (λ k. true) m)) (those (λ k. true) n)
    (every-all (λ x. Every (EvictOf c) (map (Evict c x) (those (λ k. true) m))) (those (λ k. true) n)
    (λ x. every-weaken (EvictAt c x) (EvictOf c) (map (Evict c x) (those (λ k. true) m)) (of-at c x) (ways-at c x m)))

ordered-evicts : (sh : Shape) → Ordered event_before (evicts sh)
unfolding evicts
ordered-evicts sh =
    ordered-flat nat_lt event_before (λ c. flat_map (λ x. map (Evict c x) (those (λ k. true) sh.ways)) (those (λ k. true) sh.sets)) EvictOf
    (λ c. ordered-flat nat_lt event_before (λ x. map (Evict c x) (those (λ k. true) sh.ways)) (EvictAt c)
    (λ x. ordered-map nat_lt event_before (Evict c x) (those (λ k. true) sh.ways) (ways-before c x) (ordered-numbers sh.ways))
    (λ x. ways-at c x sh.ways)
    (sets-before c)
    (those (λ k. true) sh.sets) (ordered-numbers sh.sets))
    (λ c. sets-of c sh.sets sh.ways)
    cores-before
    (those (λ k. true) sh.cores) (ordered-numbers sh.cores)

-- nodes
abbrev IsDirOrVendor : Node → Type 0
IsDirOrVendor (Core c) = ⊥
IsDirOrVendor (Dir d) = Unit {0}
IsDirOrVendor Vendor = Unit {0}

ordered-nodes : (sh : Shape) → Ordered node_before (nodes sh)
unfolding nodes
ordered-nodes sh = ordered-append node_before (map Core (those (λ k. true) sh.cores)) (map Dir (those (λ k. true) sh.dirs) ++ Vendor ∷ [])
    (ordered-map nat_lt node_before Core (those (λ k. true) sh.cores) (λ x y e. e) (ordered-numbers sh.cores))
    (ordered-append node_before (map Dir (those (λ k. true) sh.dirs)) (Vendor ∷ [])
    (ordered-map nat_lt node_before Dir (those (λ k. true) sh.dirs) (λ x y e. e) (ordered-numbers sh.dirs))
    (tt, tt)
    (every-map (λ x. Every (λ y. node_before x y ≡ true) (Vendor ∷ [])) Dir (those (λ k. true) sh.dirs)
    (every-all (λ x. Every (λ y. node_before (Dir x) y ≡ true) (Vendor ∷ [])) (those (λ k. true) sh.dirs) (λ x. (refl, tt)))))
    (every-map (λ x. Every (λ y. node_before x y ≡ true) (map Dir (those (λ k. true) sh.dirs) ++ Vendor ∷ [])) Core
    (those (λ k. true) sh.cores)
    (every-all (λ x. Every (λ y. node_before (Core x) y ≡ true) (map Dir (those (λ k. true) sh.dirs) ++ Vendor ∷ []))
    (those (λ k. true) sh.cores)
    (λ x. every-append (λ y. node_before (Core x) y ≡ true) (map Dir (those (λ k. true) sh.dirs)) (Vendor ∷ [])
    (every-map (λ y. node_before (Core x) y ≡ true) Dir (those (λ k. true) sh.dirs)
    (every-all (λ y. node_before (Core x) (Dir y) ≡ true) (those (λ k. true) sh.dirs) (λ y. refl)))
    (refl, tt))))

-- a Deliver from this source, on this link
abbrev From : Node → Event → Type 0
From n (Exec d) = ⊥
From n (Evict d x y) = ⊥
From n (Deliver s t k) = s ≡ n

abbrev On : Node → Node → Event → Type 0
On n m (Exec d) = ⊥
On n m (Evict d x y) = ⊥
On n m (Deliver s t k) = (s ≡ n) × (t ≡ m)

numbers-before : (n m : Node) (k j : ℕ) → nat_lt k j ≡ true → event_before (Deliver n m k) (Deliver n m j) ≡ true
numbers-before n m k j e = let p = node_eq-refl n in let q = node_eq-refl m in grind (arith, nat_tests)

links-before : (n m t : Node) (a b : Event) → node_before m t ≡ true → On n m a → On n t b → event_before a b ≡ true
links-before n m t (Exec i) b e p q = absurd p
links-before n m t (Evict i v y) b e p q = absurd p
links-before n m t (Deliver s u k) (Exec i) e p q = absurd q
links-before n m t (Deliver s u k) (Evict i v y) e p q = absurd q
links-before n m t (Deliver s u k) (Deliver r v j) e p q = let h = node_eq-refl n in rw (p.0, p.1, q.0, q.1) (grind (arith, nat_tests))

sources-before : (n m : Node) (a b : Event) → node_before n m ≡ true → From n a → From m b → event_before a b ≡ true
sources-before n m (Exec i) b e p q = absurd p
sources-before n m (Evict i v y) b e p q = absurd p
sources-before n m (Deliver s u k) (Exec i) e p q = absurd q
sources-before n m (Deliver s u k) (Evict i v y) e p q = absurd q
sources-before n m (Deliver s u k) (Deliver r v j) e p q = rw (p, q) (grind (arith, nat_tests))

from-on : (n m : Node) (a : Event) → On n m a → From n a
from-on n m (Exec d) p = absurd p
from-on n m (Evict d u y) p = absurd p
from-on n m (Deliver s t k) p = p.0

abbrev on_link : World → Node → Node → List Event
on_link w src dst = map (Deliver src dst) (those (λ k. true) (length (w.net src dst)))

link-on : (w : World) (s d : Node) → Every (On s d) (on_link w s d)
link-on w s d = every-map (On s d) (Deliver s d) (those (λ k. true) (length (w.net s d)))
    (every-all (λ k. On s d (Deliver s d k)) (those (λ k. true) (length (w.net s d))) (λ k. (refl, refl)))

links-from : (sh : Shape) (w : World) (s : Node) → Every (From s) (flat_map (on_link w s) (nodes sh))
links-from sh w s = every-flat (From s) (on_link w s) (nodes sh)
    (every-all (λ d. Every (From s) (on_link w s d)) (nodes sh)
    (λ d. every-weaken (On s d) (From s) (on_link w s d) (from-on s d) (link-on w s d)))

ordered-delivers : (sh : Shape) (w : World) → Ordered event_before (delivers sh w)
unfolding delivers
ordered-delivers sh w =
    ordered-flat node_before event_before (λ s. flat_map (on_link w s) (nodes sh)) From
    (λ s. ordered-flat node_before event_before (on_link w s) (On s)
    (λ d. ordered-map nat_lt event_before (Deliver s d) (those (λ k. true) (length (w.net s d))) (numbers-before s d)
    (ordered-numbers (length (w.net s d))))
    (link-on w s)
    (links-before s)
    (nodes sh) (ordered-nodes sh))
    (links-from sh w)
    sources-before
    (nodes sh) (ordered-nodes sh)

-- the three kinds
abbrev IsExec : Event → Type 0
IsExec (Exec c) = Unit {0}
IsExec (Evict c x y) = ⊥
IsExec (Deliver s d k) = ⊥

abbrev IsEvict : Event → Type 0
IsEvict (Exec c) = ⊥
IsEvict (Evict c x y) = Unit {0}
IsEvict (Deliver s d k) = ⊥

abbrev IsDeliver : Event → Type 0
IsDeliver (Exec c) = ⊥
IsDeliver (Evict c x y) = ⊥
IsDeliver (Deliver s d k) = Unit {0}

evict-of : (c : ℕ) (a : Event) → EvictOf c a → IsEvict a
evict-of c (Exec d) p = absurd p
evict-of c (Evict d x y) p = tt
evict-of c (Deliver s t k) p = absurd p

deliver-from : (n : Node) (a : Event) → From n a → IsDeliver a
deliver-from n (Exec d) p = absurd p
deliver-from n (Evict d x y) p = absurd p
deliver-from n (Deliver s t k) p = tt

exec-evict : (a b : Event) → IsExec a → IsEvict b → event_before a b ≡ true
exec-evict (Exec c) (Evict d x y) p q = refl
exec-evict (Exec c) (Exec d) p q = absurd q
exec-evict (Exec c) (Deliver s d k) p q = absurd q
exec-evict (Evict c x y) b p q = absurd p
exec-evict (Deliver s d k) b p q = absurd p

exec-deliver : (a b : Event) → IsExec a → IsDeliver b → event_before a b ≡ true
exec-deliver (Exec c) (Deliver s d k) p q = refl
exec-deliver (Exec c) (Exec d) p q = absurd q
exec-deliver (Exec c) (Evict d x y) p q = absurd q
exec-deliver (Evict c x y) b p q = absurd p
exec-deliver (Deliver s d k) b p q = absurd p

evict-deliver : (a b : Event) → IsEvict a → IsDeliver b → event_before a b ≡ true
evict-deliver (Evict c x y) (Deliver s d k) p q = refl
evict-deliver (Evict c x y) (Exec d) p q = absurd q
evict-deliver (Evict c x y) (Evict d u z) p q = absurd q
evict-deliver (Exec c) b p q = absurd p
evict-deliver (Deliver s d k) b p q = absurd p

every-exec : (sh : Shape) → Every IsExec (execs sh)
unfolding execs
every-exec sh = every-map IsExec Exec (those (λ k. true) sh.cores) (every-all (λ c. IsExec (Exec c)) (those (λ k. true) sh.cores) (λ c. tt))

every-evict : (sh : Shape) → Every IsEvict (evicts sh)
unfolding evicts
every-evict sh = every-flat IsEvict (λ c. flat_map (λ x. map (Evict c x) (those (λ k. true) sh.ways)) (those (λ k. true) sh.sets))
    (those (λ k. true) sh.cores)
    (every-all (λ c. Every IsEvict (flat_map (λ x. map (Evict c x) (those (λ k. true) sh.ways)) (those (λ k. true) sh.sets)))
    (those (λ k. true) sh.cores)
    (λ c. every-weaken (EvictOf c) IsEvict (flat_map (λ x. map (Evict c x) (those (λ k. true) sh.ways)) (those (λ k. true) sh.sets))
    (evict-of c) (sets-of c sh.sets sh.ways)))

every-deliver : (sh : Shape) (w : World) → Every IsDeliver (delivers sh w)
unfolding delivers
every-deliver sh w = every-flat IsDeliver (λ s. flat_map (on_link w s) (nodes sh)) (nodes sh)
    (every-all (λ s. Every IsDeliver (flat_map (on_link w s) (nodes sh))) (nodes sh)
    (λ s. every-weaken (From s) IsDeliver (flat_map (on_link w s) (nodes sh)) (deliver-from s) (links-from sh w s)))

each-before : (P Q : Event → Type 0) (xs ys : List Event) → ((a b : Event) → P a → Q b → event_before a b ≡ true) → Every P xs → Every Q ys
    → Every (λ a. Every (λ b. event_before a b ≡ true) ys) xs
each-before P Q xs ys f h k = every-weaken P (λ a. Every (λ b. event_before a b ≡ true) ys) xs
    (λ a p. every-weaken Q (λ b. event_before a b ≡ true) ys (λ b q. f a b p q) k) h

ordered-all : (sh : Shape) (w : World) → Ordered event_before (execs sh ++ (evicts sh ++ delivers sh w))
ordered-all sh w = ordered-append event_before (execs sh) (evicts sh ++ delivers sh w) (ordered-execs sh)
    (ordered-append event_before (evicts sh) (delivers sh w) (ordered-evicts sh) (ordered-delivers sh w)
    (each-before IsEvict IsDeliver (evicts sh) (delivers sh w) evict-deliver (every-evict sh) (every-deliver sh w)))
    (every-weaken IsExec (λ a. Every (λ b. event_before a b ≡ true) (evicts sh ++ delivers sh w)) (execs sh)
    (λ a p. every-append (λ b. event_before a b ≡ true) (evicts sh) (delivers sh w)
    (every-weaken IsEvict (λ b. event_before a b ≡ true) (evicts sh) (λ b q. exec-evict a b p q) (every-evict sh))
    (every-weaken IsDeliver (λ b. event_before a b ≡ true) (delivers sh w) (λ b q. exec-deliver a b p q) (every-deliver sh w)))
    (every-exec sh))

before-all : (e : Event) (es : List Event) → Every (λ f. event_before e f ≡ true) es → IsBeforeAll e es
before-all e [] h = tt
before-all e (f ∷ es) h = (h.0, before-all e es h.1)

is-ordered : (es : List Event) → Ordered event_before es → IsOrdered es
is-ordered [] h = tt
is-ordered (e ∷ es) h = (before-all e es h.0, is-ordered es h.1)

pub useful-ordered : (sh : Shape) (p : Program) (w : World) → IsOrdered (useful sh p w)
unfolding useful
useful-ordered sh p w = is-ordered (filter (is_useful sh p w) (execs sh ++ (evicts sh ++ delivers sh w)))
    (ordered-filter event_before (is_useful sh p w) (execs sh ++ (evicts sh ++ delivers sh w)) (ordered-all sh w))

pub before-itself : (e : Event) → event_before e e ≡ false
before-itself (Exec c) = grind (arith, nat_tests)
before-itself (Evict c x y) = grind (arith, nat_tests)
before-itself (Deliver s d k) = let a = node_before-itself s in let b = node_before-itself d in grind (arith, nat_tests)
  where
    node_before-itself : (n : Node) → node_before n n ≡ false
    node_before-itself (Core c) = grind (arith, nat_tests)
    node_before-itself (Dir d) = grind (arith, nat_tests)
    node_before-itself Vendor = refl

-- membership, as the laws say it and as the lemmas do
pub is-in : (e : Event) (es : List Event) → Among e es → IsIn e es
is-in e [] h = h
is-in e (f ∷ es) h = ⊎_elim (λ s. inl s) (λ k. inr (is-in e es k)) h

in-among : (e : Event) (es : List Event) → IsIn e es → Among e es
in-among e [] h = h
in-among e (f ∷ es) h = ⊎_elim (λ s. inl s) (λ k. inr (in-among e es k)) h

some-if : (b : Bool) (o : Option Stepped) → is_some (cond b o None) ≡ true → b ≡ true
some-if true o e = refl
some-if false o e = e

some-then : (b : Bool) (o : Option Stepped) → is_some (cond b o None) ≡ true → is_some o ≡ true
some-then true o e = e
some-then false o e = absurd (cc)

pub named : (sh : Shape) (p : Program) (w : World) (e : Event) → is_enabled sh p w e ≡ true → names_nodes sh e ≡ true
unfolding is_enabled step
named sh p w e h = some-if (names_nodes sh e) (happens sh p w e) h

pub happened : (sh : Shape) (p : Program) (w : World) (e : Event) → is_enabled sh p w e ≡ true → is_some (happens sh p w e) ≡ true
unfolding is_enabled step
happened sh p w e h = some-then (names_nodes sh e) (happens sh p w e) h

among-execs : (sh : Shape) (c : ℕ) → c < sh.cores → Among (Exec c) (execs sh)
unfolding execs
among-execs sh c h = among-map Exec c (those (λ k. true) sh.cores) (among-numbers sh.cores c h)

among-evicts : (sh : Shape) (c x y : ℕ) → c < sh.cores → x < sh.sets → y < sh.ways → Among (Evict c x y) (evicts sh)
unfolding evicts
among-evicts sh c x y h i j =
    among-flat (λ c. flat_map (λ x. map (Evict c x) (those (λ k. true) sh.ways)) (those (λ k. true) sh.sets)) c (Evict c x y)
    (those (λ k. true) sh.cores) (among-numbers sh.cores c h)
    (among-flat (λ x. map (Evict c x) (those (λ k. true) sh.ways)) x (Evict c x y) (those (λ k. true) sh.sets) (among-numbers sh.sets x i)
    (among-map (Evict c x) y (those (λ k. true) sh.ways) (among-numbers sh.ways y j)))

among-nodes : (sh : Shape) (n : Node) → is_node sh n ≡ true → Among n (nodes sh)
unfolding nodes
among-nodes sh (Core c) h = among-left (Core c) (map Core (those (λ k. true) sh.cores)) (map Dir (those (λ k. true) sh.dirs) ++ Vendor ∷ [])
    (among-map Core c (those (λ k. true) sh.cores) (among-numbers sh.cores c (lt-from c sh.cores h)))
among-nodes sh (Dir d) h = among-right (Dir d) (map Core (those (λ k. true) sh.cores)) (map Dir (those (λ k. true) sh.dirs) ++ Vendor ∷ [])
    (among-left (Dir d) (map Dir (those (λ k. true) sh.dirs)) (Vendor ∷ [])
    (among-map Dir d (those (λ k. true) sh.dirs) (among-numbers sh.dirs d (lt-from d sh.dirs h))))
among-nodes sh Vendor h = among-right Vendor (map Core (those (λ k. true) sh.cores)) (map Dir (those (λ k. true) sh.dirs) ++ Vendor ∷ [])
    (among-right Vendor (map Dir (those (λ k. true) sh.dirs)) (Vendor ∷ []) (inl refl))

-- a message in flight has a number below its link's length
below-length : (l : Link) (k : ℕ) → is_some (get_or l k None) ≡ true → k < length l
below-length [] zero h = absurd (cc)
below-length [] (suc k) h = absurd (cc)
below-length (m ∷ l) zero h = omega arith
below-length (m ∷ l) (suc k) h = let i = below-length l k h in omega arith

flown : (sh : Shape) (w : World) (src dst : Node) (k : ℕ) (o : Option Msg) → is_some (if_in_flight sh w src dst k o) ≡ true
    → is_some o ≡ true
flown sh w src dst k None h = h
flown sh w src dst k (Some m) h = refl

pub in_flight-named : (sh : Shape) (p : Program) (w : World) (src dst : Node) (k : ℕ) → is_some (happens sh p w (Deliver src dst k)) ≡ true
    → is_some (in_flight w.net src dst k) ≡ true
unfolding happens
in_flight-named sh p w src dst k h = flown sh w src dst k (in_flight w.net src dst k) h

among-delivers : (sh : Shape) (w : World) (src dst : Node) (k : ℕ) → is_node sh src ≡ true → is_node sh dst ≡ true
    → k < length (w.net src dst) → Among (Deliver src dst k) (delivers sh w)
unfolding delivers
among-delivers sh w src dst k h i j =
    among-flat (λ s. flat_map (on_link w s) (nodes sh)) src (Deliver src dst k) (nodes sh) (among-nodes sh src h)
    (among-flat (on_link w src) dst (Deliver src dst k) (nodes sh) (among-nodes sh dst i)
    (among-map (Deliver src dst) k (those (λ k. true) (length (w.net src dst))) (among-numbers (length (w.net src dst)) k j)))

among-all : (sh : Shape) (p : Program) (w : World) (e : Event) → names_nodes sh e ≡ true → is_some (happens sh p w e) ≡ true
    → Among e (execs sh ++ (evicts sh ++ delivers sh w))
unfolding names_nodes
among-all sh p w (Exec c) n h = among-left (Exec c) (execs sh) (evicts sh ++ delivers sh w) (among-execs sh c (lt-from c sh.cores n))
among-all sh p w (Evict c x y) n h =
    let r = and-right (nat_lt c sh.cores) (nat_lt x sh.sets && nat_lt y sh.ways) n in
    among-right (Evict c x y) (execs sh) (evicts sh ++ delivers sh w) (among-left (Evict c x y) (evicts sh) (delivers sh w)
    (among-evicts sh c x y (lt-from c sh.cores (and-left (nat_lt c sh.cores) (nat_lt x sh.sets && nat_lt y sh.ways) n))
    (lt-from x sh.sets (and-left (nat_lt x sh.sets) (nat_lt y sh.ways) r))
    (lt-from y sh.ways (and-right (nat_lt x sh.sets) (nat_lt y sh.ways) r))))
among-all sh p w (Deliver src dst k) n h =
    among-right (Deliver src dst k) (execs sh) (evicts sh ++ delivers sh w) (among-right (Deliver src dst k) (evicts sh) (delivers sh w)
    (among-delivers sh w src dst k (and-left (is_node sh src) (is_node sh dst) n) (and-right (is_node sh src) (is_node sh dst) n)
    (below-length (w.net src dst) k (in_flight-named sh p w src dst k h))))

pub useful-enabled_in : (sh : Shape) (p : Program) (w : World) (e : Event) → is_useful sh p w e ≡ true → is_enabled sh p w e ≡ true
unfolding is_useful
useful-enabled_in sh p w e h = and-left (is_enabled sh p w e) (is_of_use sh p w e) h

pub useful-enabled : (sh : Shape) (p : Program) (w : World) (e : Event) → is_useful sh p w e ≡ true → IsSome (step sh p w e)
unfolding is_enabled
useful-enabled sh p w e h = useful-enabled_in sh p w e h

pub useful-holds : (sh : Shape) (p : Program) (w : World) (e : Event) → IsIn e (useful sh p w) ↔ (is_useful sh p w e ≡ true)
unfolding useful
useful-holds sh p w e = (
  λ h. filter-among (is_useful sh p w) e (execs sh ++ (evicts sh ++ delivers sh w))
      (in-among e (filter (is_useful sh p w) (execs sh ++ (evicts sh ++ delivers sh w))) h),
  λ h. let n = useful-enabled_in sh p w e h in
      is-in e (filter (is_useful sh p w) (execs sh ++ (evicts sh ++ delivers sh w)))
      (among-filter (is_useful sh p w) e (execs sh ++ (evicts sh ++ delivers sh w))
      (among-all sh p w e (named sh p w e n) (happened sh p w e n)) h),
)
