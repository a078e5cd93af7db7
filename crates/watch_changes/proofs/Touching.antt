-- What an event changed of its node is what it changed of the part that it touches.
use Rattle.std.proofs.Common.{◌≡◌, ℕ, Bool, true, false, if◌then◌else◌, Option, Some, None, refl, ap, subst, sym, ◌==◌, arith}
use Rattle.std.proofs.lemmas.Bool.Decides.{nat_tests}
use Rattle.rules_program.specs.Program.{Program}
use Rattle.rules_maps.specs.Nodes.{Node, Core, Dir, Vendor, Msg, Event, Exec, Evict, Deliver}
use Rattle.rules_maps.specs.Shape.{Shape, lines}
use Rattle.rules_maps.specs.Words.{put, those}
use Rattle.rules_tcc.specs.Attempt.{Out}
use Rattle.rules_tcc.specs.CoreDeliver.{core_deliver}
use Rattle.rules_tcc.specs.CoreEvict.{core_evict}
use Rattle.rules_tcc.specs.CoreExec.{core_exec}
use Rattle.rules_tcc.specs.DirDeliver.{Answer, Waits, Drops, Asks, Takes, dir_deliver}
use Rattle.rules_tcc.specs.Links.{in_flight}
use Rattle.rules_tcc.specs.State.{CoreState, DirState, World}
use Rattle.rules_tcc.specs.Step.{History, Stepped, answered, core_moves, core_takes, delivered, dir_asks, dir_takes, happens}
use Rattle.rules_tcc.specs.Step.{if_core_moves, if_core_takes}
use Rattle.rules_tcc.specs.Step.{if_in_flight, if_vendor_gives, names_nodes, next_history, recorded, step}
use Rattle.rules_tcc.specs.VendorDeliver.{vendor_deliver}
use Rattle.watch.specs.Happened.{actor}
use Rattle.watch_changes.specs.Changes.{changes}
use Rattle.watch_state.specs.Cores.{core_part, core_records}
use Rattle.watch_state.specs.Directories.{directory_part, directory_records}
use Rattle.watch_changes.specs.Nodes.{records_at}
use Rattle.watch_changes.specs.Touched.{Part, NoMore, OfVendor, Reach, may_change, may_come_home, part_records, touched, touched_at}
use Rattle.watch_changes.specs.Touched.{reach_of_delivery, reach_of_exec, reach_of_msg, reached_by, reaches, touched_by}
use Rattle.watch_changes.proofs.CoreParting.{core-changes}
use Rattle.watch_changes.proofs.Parting.{part-changes}
use Rattle.watch_changes.proofs.Reaching.{IsWithin, OutWithin, deliver-within, evict-within, exec-within}
use Rattle.watch_changes.proofs.Ruling.{AnswerChanges, IsChangedBy, alike-record, answer-changes, same-lines}

-- what changed of a node is what changed of a part of it
abbrev pub Suffices : Shape → (first : ℕ → ℕ) → (w v : World) → Node → Part → Type 0
Suffices sh first w v n part =
    changes (records_at sh first w n) (records_at sh first v n) ≡ changes (part_records sh first w part) (part_records sh first v part)

-- a core that an event has changed
of-core : (sh : Shape) (first : ℕ → ℕ) (w v : World) (c : ℕ) (r : Reach) (t : CoreState) → IsWithin sh r (w.cores c).cache t.cache
    → v.cores c ≡ t → Suffices sh first w v (Core c) (reached_by sh c (w.cores c).cache r)
unfolding records_at part_records
of-core sh first w v c r t x e =
    subst (λ s. changes (core_records sh c (w.cores c)) (core_records sh c s)
    ≡ changes (core_part sh c (those (reaches sh (w.cores c).cache r) sh.sets) (w.cores c))
    (core_part sh c (those (reaches sh (w.cores c).cache r) sh.sets) s)) (sym e) (core-changes sh r c (w.cores c) t x)

all-of-vendor : (sh : Shape) (first : ℕ → ℕ) (w v : World) → Suffices sh first w v Vendor OfVendor
unfolding records_at part_records
all-of-vendor sh first w v = refl

-- a directory that a message has changed
of-directory : (sh : Shape) (first : ℕ → ℕ) (w v : World) (d : ℕ) (m : Msg) (t : DirState) → IsChangedBy sh m (w.dirs d) t
    → v.dirs d ≡ t → Suffices sh first w v (Dir d) (touched_by sh d (w.dirs d).lines (Some m))
unfolding records_at part_records
of-directory sh first w v d m t x e =
    subst (λ r. changes (directory_records sh first d (w.dirs d)) (directory_records sh first d r)
    ≡ changes (directory_part sh first d (those (may_change m (w.dirs d).lines) (lines sh)) (those (may_come_home m) (lines sh)) (w.dirs d))
    (directory_part sh first d (those (may_change m (w.dirs d).lines) (lines sh)) (those (may_come_home m) (lines sh)) r)) (sym e)
    (part-changes sh first d (may_change m (w.dirs d).lines) (may_come_home m) (w.dirs d) t
    (λ l h. alike-record sh (w.dirs d).lines t.lines l (x.lines l h)) (λ l h. x.words first l h))

-- ---- each kind of event

put-here : {A : Type 0} (f : ℕ → A) (d : ℕ) (x : A) → put f d x d ≡ x
put-here f d x = let one : (d == d) ≡ true = grind (arith, nat_tests) in rw one refl

abbrev IsEnough : Shape → (first : ℕ → ℕ) → World → Node → Part → Option Stepped → Type 0
IsEnough sh first w n part None = Unit {0}
IsEnough sh first w n part (Some o) = Suffices sh first w o.world n part

if-moves : (sh : Shape) (first : ℕ → ℕ) (w : World) (c : ℕ) (r : Reach) (o : Option Out) → OutWithin sh r (w.cores c) o
    → IsEnough sh first w (Core c) (reached_by sh c (w.cores c).cache r) (if_core_moves w c o)
unfolding core_moves
if-moves sh first w c r None x = record {}
if-moves sh first w c r (Some o) x = of-core sh first w _ c r o.core x (put-here w.cores c o.core)

if-takes : (sh : Shape) (first : ℕ → ℕ) (w : World) (src : Node) (c k : ℕ) (r : Reach) (o : Option Out) → OutWithin sh r (w.cores c) o
    → IsEnough sh first w (Core c) (reached_by sh c (w.cores c).cache r) (if_core_takes w src c k o)
unfolding core_takes
if-takes sh first w src c k r None x = record {}
if-takes sh first w src c k r (Some o) x = of-core sh first w _ c r o.core x (put-here w.cores c o.core)

if-vendor : (sh : Shape) (first : ℕ → ℕ) (w : World) (o : Option Stepped) → IsEnough sh first w Vendor OfVendor o
if-vendor sh first w None = record {}
if-vendor sh first w (Some o) = all-of-vendor sh first w o.world

same-changed : (sh : Shape) (m : Msg) (s : DirState) → IsChangedBy sh m s s
same-changed sh m s = same-lines sh m s s refl refl

if-answered : (sh : Shape) (first : ℕ → ℕ) (w : World) (c d k : ℕ) (m : Msg) (a : Answer) → AnswerChanges sh m (w.dirs d) a
    → IsEnough sh first w (Dir d) (touched_by sh d (w.dirs d).lines (Some m)) (answered w c d k a)
unfolding dir_takes dir_asks
if-answered sh first w c d k m Waits x = record {}
if-answered sh first w c d k m Drops x =
    of-directory sh first w _ d m (w.dirs d) (same-changed sh m (w.dirs d)) (put-here w.dirs d (w.dirs d))
if-answered sh first w c d k m (Asks t sends) x = of-directory sh first w _ d m t x (put-here w.dirs d t)
if-answered sh first w c d k m (Takes t sends) x = of-directory sh first w _ d m t x (put-here w.dirs d t)

delivered-enough : (sh : Shape) (first : ℕ → ℕ) (w : World) (src dst : Node) (k : ℕ) (m : Msg)
    → IsEnough sh first w dst (touched_at sh w dst (Some m)) (delivered sh w src dst k m)
delivered-enough sh first w src (Core c) k m =
    if-takes sh first w src c k (reach_of_msg (w.cores c) m) (core_deliver sh (w.cores c) src m) (deliver-within sh (w.cores c) src m)
delivered-enough sh first w (Core c) (Dir d) k m =
    if-answered sh first w c d k m (dir_deliver sh (w.dirs d) c m) (answer-changes sh (w.dirs d) c m)
delivered-enough sh first w (Dir c) (Dir d) k m = record {}
delivered-enough sh first w Vendor (Dir d) k m = record {}
delivered-enough sh first w (Core c) Vendor k m = if-vendor sh first w (if_vendor_gives w c k (vendor_deliver w.next c m))
delivered-enough sh first w (Dir c) Vendor k m = record {}
delivered-enough sh first w Vendor Vendor k m = record {}

flying-enough : (sh : Shape) (first : ℕ → ℕ) (w : World) (src dst : Node) (k : ℕ) (o : Option Msg)
    → IsEnough sh first w dst (touched_at sh w dst o) (if_in_flight sh w src dst k o)
flying-enough sh first w src dst k None = record {}
flying-enough sh first w src dst k (Some m) = delivered-enough sh first w src dst k m

happens-enough : (sh : Shape) (p : Program) (first : ℕ → ℕ) (w : World) (e : Event)
    → IsEnough sh first w (actor e) (touched sh p w e) (happens sh p w e)
unfolding happens touched
happens-enough sh p first w (Exec c) =
    let s = w.cores c in
    if-moves sh first w c (reach_of_exec sh (p.need s.local) s.phase) (core_exec sh p c s) (exec-within sh p c s)
happens-enough sh p first w (Evict c x y) =
    let s = w.cores c in
    if-moves sh first w c (record { line = s.cache.at x y; more = NoMore }) (core_evict sh x y s) (evict-within sh x y s)
happens-enough sh p first w (Deliver src dst k) = flying-enough sh first w src dst k (in_flight w.net src dst k)

step-enough : (sh : Shape) (p : Program) (first : ℕ → ℕ) (w : World) (e : Event)
    → IsEnough sh first w (actor e) (touched sh p w e) (step sh p w e)
unfolding step
step-enough sh p first w e = go (names_nodes sh e)
  where
    go : (b : Bool) → IsEnough sh first w (actor e) (touched sh p w e) (if b then happens sh p w e else None)
    go true = happens-enough sh p first w e
    go false = record {}

-- ---- the state after it

abbrev world_or : World → Option History → World
world_or w None = w
world_or w (Some h) = h.world

recorded-enough : (sh : Shape) (first : ℕ → ℕ) (n : Node) (part : Part) (h k : History) (o : Option Stepped)
    → IsEnough sh first h.world n part o → recorded h o ≡ Some k → Suffices sh first h.world k.world n part
recorded-enough sh first n part h k None a e = absurd (cc)
recorded-enough sh first n part h k (Some o) a e = subst (λ v. Suffices sh first h.world v n part) (ap (world_or h.world) e) a

pub touched-suffices : (sh : Shape) (p : Program) (first : ℕ → ℕ) (h k : History) (e : Event) → next_history sh p h e ≡ Some k
    → changes (records_at sh first h.world (actor e)) (records_at sh first k.world (actor e))
    ≡ changes (part_records sh first h.world (touched sh p h.world e)) (part_records sh first k.world (touched sh p h.world e))
unfolding next_history
touched-suffices sh p first h k e q =
    recorded-enough sh first (actor e) (touched sh p h.world e) h k (step sh p h.world e) (step-enough sh p first h.world e) q
