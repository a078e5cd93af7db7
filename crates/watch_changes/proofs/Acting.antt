-- An event leaves the records of all nodes as they are but those of the node that acts.
use Rattle.std.proofs.Common.{◌≡◌, ℕ, Bool, true, false, if◌then◌else◌, [], Option, Some, None, refl, ap, subst}
use Rattle.rules_program.specs.Program.{Program}
use Rattle.rules_maps.specs.Nodes.{Node, Core, Dir, Vendor, Msg, Event, Exec, Evict, Deliver}
use Rattle.rules_maps.specs.Shape.{Shape}
use Rattle.rules_tcc.specs.Attempt.{Out}
use Rattle.rules_tcc.specs.CoreDeliver.{core_deliver}
use Rattle.rules_tcc.specs.CoreEvict.{core_evict}
use Rattle.rules_tcc.specs.CoreExec.{core_exec}
use Rattle.rules_tcc.specs.DirDeliver.{Answer, Waits, Drops, Asks, Takes, dir_deliver}
use Rattle.rules_tcc.specs.Links.{in_flight}
use Rattle.rules_tcc.specs.Sends.{Sends}
use Rattle.rules_tcc.specs.State.{DirState, World}
use Rattle.rules_tcc.specs.Step.{History, Stepped, answered, core_moves, core_takes, delivered, dir_asks, dir_takes, happens, if_core_moves}
use Rattle.rules_tcc.specs.Step.{if_core_takes, if_in_flight, if_vendor_gives, names_nodes, next_history, recorded, step, vendor_gives}
use Rattle.rules_tcc.specs.VendorDeliver.{Granted, vendor_deliver}
use Rattle.watch.specs.Happened.{actor}
use Rattle.watch_changes.specs.Nodes.{AreAlikeBut, records_at}

-- ---- each kind of event

moves-alone : (sh : Shape) (first : ℕ → ℕ) (w : World) (c : ℕ) (o : Out) → AreAlikeBut sh first (Core c) w (core_moves w c o)
unfolding records_at core_moves
moves-alone sh first w c o (Core d) e = rw e refl
moves-alone sh first w c o (Dir d) e = refl
moves-alone sh first w c o Vendor e = refl

takes-alone : (sh : Shape) (first : ℕ → ℕ) (w : World) (src : Node) (c k : ℕ) (o : Out)
    → AreAlikeBut sh first (Core c) w (core_takes w src c k o)
unfolding records_at core_takes
takes-alone sh first w src c k o (Core d) e = rw e refl
takes-alone sh first w src c k o (Dir d) e = refl
takes-alone sh first w src c k o Vendor e = refl

dir-takes-alone : (sh : Shape) (first : ℕ → ℕ) (w : World) (c d k : ℕ) (s : DirState) (sends : Sends)
    → AreAlikeBut sh first (Dir d) w (dir_takes w c d k s sends)
unfolding records_at dir_takes
dir-takes-alone sh first w c d k s sends (Core b) e = refl
dir-takes-alone sh first w c d k s sends (Dir b) e = rw e refl
dir-takes-alone sh first w c d k s sends Vendor e = refl

dir-asks-alone : (sh : Shape) (first : ℕ → ℕ) (w : World) (d : ℕ) (s : DirState) (sends : Sends)
    → AreAlikeBut sh first (Dir d) w (dir_asks w d s sends)
unfolding records_at dir_asks
dir-asks-alone sh first w d s sends (Core b) e = refl
dir-asks-alone sh first w d s sends (Dir b) e = rw e refl
dir-asks-alone sh first w d s sends Vendor e = refl

vendor-alone : (sh : Shape) (first : ℕ → ℕ) (w : World) (c k : ℕ) (g : Granted) → AreAlikeBut sh first Vendor w (vendor_gives w c k g)
unfolding records_at vendor_gives
vendor-alone sh first w c k g (Core b) e = refl
vendor-alone sh first w c k g (Dir b) e = refl
vendor-alone sh first w c k g Vendor e = absurd (cc)

-- ---- an event that may not be enabled

abbrev IsAlone : Shape → (first : ℕ → ℕ) → Node → World → Option Stepped → Type 0
IsAlone sh first n w None = Unit {0}
IsAlone sh first n w (Some o) = AreAlikeBut sh first n w o.world

if-moves : (sh : Shape) (first : ℕ → ℕ) (w : World) (c : ℕ) (o : Option Out) → IsAlone sh first (Core c) w (if_core_moves w c o)
if-moves sh first w c None = record {}
if-moves sh first w c (Some o) = moves-alone sh first w c o

if-takes : (sh : Shape) (first : ℕ → ℕ) (w : World) (src : Node) (c k : ℕ) (o : Option Out)
    → IsAlone sh first (Core c) w (if_core_takes w src c k o)
if-takes sh first w src c k None = record {}
if-takes sh first w src c k (Some o) = takes-alone sh first w src c k o

if-answered : (sh : Shape) (first : ℕ → ℕ) (w : World) (c d k : ℕ) (a : Answer) → IsAlone sh first (Dir d) w (answered w c d k a)
if-answered sh first w c d k Waits = record {}
if-answered sh first w c d k Drops = dir-takes-alone sh first w c d k (w.dirs d) (λ dst. [])
if-answered sh first w c d k (Asks s sends) = dir-asks-alone sh first w d s sends
if-answered sh first w c d k (Takes s sends) = dir-takes-alone sh first w c d k s sends

if-gives : (sh : Shape) (first : ℕ → ℕ) (w : World) (c k : ℕ) (g : Option Granted)
    → IsAlone sh first Vendor w (if_vendor_gives w c k g)
if-gives sh first w c k None = record {}
if-gives sh first w c k (Some g) = vendor-alone sh first w c k g

delivered-alone : (sh : Shape) (first : ℕ → ℕ) (w : World) (src dst : Node) (k : ℕ) (m : Msg)
    → IsAlone sh first dst w (delivered sh w src dst k m)
delivered-alone sh first w src (Core c) k m = if-takes sh first w src c k (core_deliver sh (w.cores c) src m)
delivered-alone sh first w (Core c) (Dir d) k m = if-answered sh first w c d k (dir_deliver sh (w.dirs d) c m)
delivered-alone sh first w (Dir c) (Dir d) k m = record {}
delivered-alone sh first w Vendor (Dir d) k m = record {}
delivered-alone sh first w (Core c) Vendor k m = if-gives sh first w c k (vendor_deliver w.next c m)
delivered-alone sh first w (Dir c) Vendor k m = record {}
delivered-alone sh first w Vendor Vendor k m = record {}

if-flying : (sh : Shape) (first : ℕ → ℕ) (w : World) (src dst : Node) (k : ℕ) (o : Option Msg)
    → IsAlone sh first dst w (if_in_flight sh w src dst k o)
if-flying sh first w src dst k None = record {}
if-flying sh first w src dst k (Some m) = delivered-alone sh first w src dst k m

happens-alone : (sh : Shape) (p : Program) (first : ℕ → ℕ) (w : World) (e : Event) → IsAlone sh first (actor e) w (happens sh p w e)
unfolding happens
happens-alone sh p first w (Exec c) = if-moves sh first w c (core_exec sh p c (w.cores c))
happens-alone sh p first w (Evict c x y) = if-moves sh first w c (core_evict sh x y (w.cores c))
happens-alone sh p first w (Deliver src dst k) = if-flying sh first w src dst k (in_flight w.net src dst k)

step-alone : (sh : Shape) (p : Program) (first : ℕ → ℕ) (w : World) (e : Event) → IsAlone sh first (actor e) w (step sh p w e)
unfolding step
step-alone sh p first w e = go (names_nodes sh e)
  where
    go : (b : Bool) → IsAlone sh first (actor e) w (if b then happens sh p w e else None)
    go true = happens-alone sh p first w e
    go false = record {}

-- ---- the state after it

abbrev world_or : World → Option History → World
world_or w None = w
world_or w (Some h) = h.world

recorded-alone : (sh : Shape) (first : ℕ → ℕ) (n : Node) (h k : History) (o : Option Stepped) → IsAlone sh first n h.world o
    → recorded h o ≡ Some k → AreAlikeBut sh first n h.world k.world
recorded-alone sh first n h k None a e = absurd (cc)
recorded-alone sh first n h k (Some o) a e = subst (λ v. AreAlikeBut sh first n h.world v) (ap (world_or h.world) e) a

pub acts-alone : (sh : Shape) (p : Program) (first : ℕ → ℕ) (h k : History) (e : Event) → next_history sh p h e ≡ Some k
    → AreAlikeBut sh first (actor e) h.world k.world
unfolding next_history
acts-alone sh p first h k e q = recorded-alone sh first (actor e) h k (step sh p h.world e) (step-alone sh p first h.world e) q
