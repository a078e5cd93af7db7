-- The whole machine: an event acts on one node, and what that node sends stands at the end of its links.
use Rattle.std.specs.Prelude.{ℕ, Bool, List, [], ◌∷◌, Option, Some, None, is_some, true, nat_lt, ◌&&◌, if◌then◌else◌}
use Rattle.tcc_base.specs.Put.{put}
use Rattle.tcc_base.specs.declared.access.Commit.{Commit as Noted}
use Rattle.rules_program.specs.Program.{Program}
use Rattle.rules_maps.specs.Nodes.{Node, Core, Dir, Vendor, Msg, Event, Exec, Evict, Deliver}
use Rattle.rules_maps.specs.Shape.{Shape}
use Rattle.rules_tcc.specs.State.{DirState, World}
use Rattle.rules_tcc.specs.Links.{in_flight, sending, taking}
use Rattle.rules_tcc.specs.Sends.{Sends}
use Rattle.rules_tcc.specs.Attempt.{Out}
use Rattle.rules_tcc.specs.CoreExec.{core_exec}
use Rattle.rules_tcc.specs.CoreEvict.{core_evict}
use Rattle.rules_tcc.specs.CoreDeliver.{core_deliver}
use Rattle.rules_tcc.specs.DirDeliver.{Answer, Waits, Drops, Asks, Takes, dir_deliver}
use Rattle.rules_tcc.specs.VendorDeliver.{Granted, vendor_deliver}

-- the state after an event, and the commit that it noted
pub record Stepped : Type 0 where
  pub world : World
  pub noted : Option Noted

-- one of these for each kind of event

-- a core executes or evicts
unfoldable pub core_moves : World → (core : ℕ) → Out → World
core_moves w c o = record w { cores = put w.cores c o.core; net = sending w.net (Core c) o.sends }

-- a core takes message k from src
unfoldable pub core_takes : World → (src : Node) → (core k : ℕ) → Out → World
core_takes w src c k o = record w { cores = put w.cores c o.core; net = sending (taking w.net src (Core c) k) (Core c) o.sends }

-- a directory takes message k from core c
unfoldable pub dir_takes : World → (core dir k : ℕ) → DirState → Sends → World
dir_takes w c d k s sends = record w { dirs = put w.dirs d s; net = sending (taking w.net (Core c) (Dir d) k) (Dir d) sends }

-- a directory asks an owner, and the message stays
unfoldable pub dir_asks : World → (dir : ℕ) → DirState → Sends → World
dir_asks w d s sends = record w { dirs = put w.dirs d s; net = sending w.net (Dir d) sends }

-- the vendor takes message k from core c
unfoldable pub vendor_gives : World → (core k : ℕ) → Granted → World
vendor_gives w c k g = record w { next = g.next; net = sending (taking w.net (Core c) Vendor k) Vendor g.sends }

abbrev pub if_core_moves : World → (core : ℕ) → Option Out → Option Stepped
if_core_moves w c None = None
if_core_moves w c (Some o) = Some (record { world = core_moves w c o; noted = o.commit })

abbrev pub if_core_takes : World → (src : Node) → (core k : ℕ) → Option Out → Option Stepped
if_core_takes w src c k None = None
if_core_takes w src c k (Some o) = Some (record { world = core_takes w src c k o; noted = o.commit })

abbrev pub answered : World → (core dir k : ℕ) → Answer → Option Stepped
answered w c d k Waits = None
answered w c d k Drops = Some (record { world = dir_takes w c d k (w.dirs d) (λ dst. []); noted = None })
answered w c d k (Asks s sends) = Some (record { world = dir_asks w d s sends; noted = None })
answered w c d k (Takes s sends) = Some (record { world = dir_takes w c d k s sends; noted = None })

abbrev pub if_vendor_gives : World → (core k : ℕ) → Option Granted → Option Stepped
if_vendor_gives w c k None = None
if_vendor_gives w c k (Some g) = Some (record { world = vendor_gives w c k g; noted = None })

-- the message that is delivered, by its destination
abbrev pub delivered : Shape → World → (src dst : Node) → (k : ℕ) → Msg → Option Stepped
delivered sh w src (Core c) k m = if_core_takes w src c k (core_deliver sh (w.cores c) src m)
delivered sh w (Core c) (Dir d) k m = answered w c d k (dir_deliver sh (w.dirs d) c m)
delivered sh w (Core c) Vendor k m = if_vendor_gives w c k (vendor_deliver w.next c m)
delivered sh w _ _ k m = None

-- a name that is no message in flight isn't enabled
abbrev pub if_in_flight : Shape → World → (src dst : Node) → (k : ℕ) → Option Msg → Option Stepped
if_in_flight sh w src dst k None = None
if_in_flight sh w src dst k (Some m) = delivered sh w src dst k m

-- the node exists
abbrev pub is_node : Shape → Node → Bool
is_node sh (Core c) = nat_lt c sh.cores
is_node sh (Dir d) = nat_lt d sh.dirs
is_node sh Vendor = true

-- all that the event names exists, but perhaps the message
unfoldable pub names_nodes : Shape → Event → Bool
names_nodes sh (Exec c) = nat_lt c sh.cores
names_nodes sh (Evict c x y) = nat_lt c sh.cores && (nat_lt x sh.sets && nat_lt y sh.ways)
names_nodes sh (Deliver src dst k) = is_node sh src && is_node sh dst

-- by the kind of event
unfoldable pub happens : Shape → Program → World → Event → Option Stepped
happens sh p w (Exec c) = if_core_moves w c (core_exec sh p c (w.cores c))
happens sh p w (Evict c x y) = if_core_moves w c (core_evict sh x y (w.cores c))
happens sh p w (Deliver src dst k) = if_in_flight sh w src dst k (in_flight w.net src dst k)

-- the one state after an event; None: the event isn't enabled
unfoldable pub step : Shape → Program → World → Event → Option Stepped
step sh p w e = if names_nodes sh e then happens sh p w e else None

unfoldable pub is_enabled : Shape → Program → World → Event → Bool
is_enabled sh p w e = is_some (step sh p w e)

-- the state and the commits so far, by rising TID
pub record History : Type 0 where
  pub world : World
  pub commits : List Noted

-- a commit stands behind those of smaller TIDs
unfoldable pub insert_commit : Noted → List Noted → List Noted
insert_commit c [] = c ∷ []
insert_commit c (d ∷ ds) = if nat_lt c.tid.0 d.tid.0 then c ∷ d ∷ ds else d ∷ insert_commit c ds

abbrev pub and_noted : Option Noted → List Noted → List Noted
and_noted None cs = cs
and_noted (Some c) cs = insert_commit c cs

abbrev pub recorded : History → Option Stepped → Option History
recorded h None = None
recorded h (Some o) = Some (record { world = o.world; commits = and_noted o.noted h.commits })

unfoldable pub next_history : Shape → Program → History → Event → Option History
next_history sh p h e = recorded h (step sh p h.world e)

abbrev pub and_then : (History → Option History) → Option History → Option History
and_then f None = None
and_then f (Some h) = f h

-- the events one after another, each enabled where it comes
unfoldable pub run_from : Shape → Program → List Event → History → Option History
run_from sh p [] h = Some h
run_from sh p (e ∷ es) h = and_then (run_from sh p es) (next_history sh p h e)

unfoldable pub run : Shape → Program → World → List Event → Option History
run sh p w es = run_from sh p es (record { world = w; commits = [] })
