-- One node by itself: what its log says that it did, by the same rules.
use Rattle.std.specs.Prelude.{ℕ, Bool, true, false, not, List, [], ◌∷◌, ◌++◌, Option, Some, None, ◌==◌, ◌&&◌, if◌then◌else◌}
use Rattle.rules_program.specs.Program.{Program}
use Rattle.rules_maps.specs.Nodes.{Node, Core, Dir, Vendor, Msg, Event, Exec, Evict, Deliver, node_eq}
use Rattle.rules_maps.specs.Shape.{Shape}
use Rattle.rules_tcc.specs.State.{CoreState, DirState, World}
use Rattle.rules_tcc.specs.Sends.{Sends, nothing}
use Rattle.rules_tcc.specs.Attempt.{Out}
use Rattle.rules_tcc.specs.CoreExec.{core_exec}
use Rattle.rules_tcc.specs.CoreEvict.{core_evict}
use Rattle.rules_tcc.specs.CoreDeliver.{core_deliver}
use Rattle.rules_tcc.specs.DirDeliver.{Answer, Waits, Drops, Asks, Takes, dir_deliver}
use Rattle.rules_tcc.specs.VendorDeliver.{Granted, vendor_deliver}
use Rattle.rules_tcc.specs.Step.{names_nodes}

-- the node at which an event happens
abbrev pub at_node : Event → Node
at_node (Exec c) = Core c
at_node (Evict c x y) = Core c
at_node (Deliver src dst k) = dst

-- one node's state
pub data NodeState : Type 0 where
  AtCore : (core : CoreState) → NodeState
  AtDir : (dir : DirState) → NodeState
  AtVendor : (next : ℕ) → NodeState

abbrev pub state_at : World → Node → NodeState
state_at w (Core c) = AtCore (w.cores c)
state_at w (Dir d) = AtDir (w.dirs d)
state_at w Vendor = AtVendor w.next

-- what a log stores of one event: its stamp, and the message that it handled with the stamp of the entry that sent it
pub record Entry : Type 0 where
  pub stamp : ℕ
  pub event : Event
  pub msg : Option Msg
  pub msg_stamp : ℕ

-- what one event leaves of the node, what it sends, and whether the message was consumed
pub record Acted : Type 0 where
  pub state : NodeState
  pub sends : Sends
  pub consumes : Bool

abbrev pub acted : Bool → Option Out → Option Acted
acted consumes None = None
acted consumes (Some o) = Some (record { state = AtCore o.core; sends = o.sends; consumes = consumes })

abbrev pub answer_acted : DirState → Answer → Option Acted
answer_acted s Waits = None
answer_acted s Drops = Some (record { state = AtDir s; sends = nothing; consumes = true })
answer_acted s (Asks t sends) = Some (record { state = AtDir t; sends = sends; consumes = false })
answer_acted s (Takes t sends) = Some (record { state = AtDir t; sends = sends; consumes = true })

abbrev pub grant_acted : Option Granted → Option Acted
grant_acted None = None
grant_acted (Some g) = Some (record { state = AtVendor g.next; sends = g.sends; consumes = true })

-- a node takes a message, by its sender
abbrev pub takes : Shape → NodeState → (src : Node) → Option Msg → Option Acted
takes sh s src None = None
takes sh (AtCore s) src (Some m) = acted true (core_deliver sh s src m)
takes sh (AtDir s) (Core c) (Some m) = answer_acted s (dir_deliver sh s c m)
takes sh (AtDir s) (Dir d) (Some m) = None
takes sh (AtDir s) Vendor (Some m) = None
takes sh (AtVendor t) (Core c) (Some m) = grant_acted (vendor_deliver t c m)
takes sh (AtVendor t) (Dir d) (Some m) = None
takes sh (AtVendor t) Vendor (Some m) = None

-- an event of this node, by its own rules alone
abbrev pub act : Shape → Program → NodeState → Event → Option Msg → Option Acted
act sh p (AtCore s) (Exec c) m = acted false (core_exec sh p c s)
act sh p (AtCore s) (Evict c x y) m = acted false (core_evict sh x y s)
act sh p (AtDir s) (Exec c) m = None
act sh p (AtDir s) (Evict c x y) m = None
act sh p (AtVendor t) (Exec c) m = None
act sh p (AtVendor t) (Evict c x y) m = None
act sh p s (Deliver src dst k) m = takes sh s src m

-- a message that was sent, with the stamp of the entry that sent it
pub record Mail : Type 0 where
  pub msg : Msg
  pub stamp : ℕ

unfoldable pub mailed : (stamp : ℕ) → List Msg → List Mail
mailed t [] = []
mailed t (m ∷ ms) = record { msg = m; stamp = t } ∷ mailed t ms

-- a node after some entries of its log: its state, what it sent to each destination, numbered from 0, and which names it consumed
pub record Side : Type 0 where
  pub state : NodeState
  pub sent : Node → List Mail
  pub gone : Node → ℕ → Bool  -- source, number

-- at the start nothing was sent or consumed
unfoldable pub side_start : NodeState → Side
side_start s = record { state = s; sent = λ dst. []; gone = λ src k. false }

-- the event delivers a name that was consumed
abbrev pub is_gone : (Node → ℕ → Bool) → Event → Bool
is_gone gone (Deliver src dst k) = gone src k
is_gone gone (Exec c) = false
is_gone gone (Evict c x y) = false

abbrev pub consumed : Bool → Event → (Node → ℕ → Bool) → Node → ℕ → Bool
consumed true (Deliver src dst k) gone s j = if node_eq s src && j == k then true else gone s j
consumed true (Exec c) gone s j = gone s j
consumed true (Evict c x y) gone s j = gone s j
consumed false e gone s j = gone s j

abbrev pub side_after : Entry → Side → Option Acted → Option Side
side_after e s None = None
side_after e s (Some a) = Some (record {
  state = a.state;
  sent = λ dst. s.sent dst ++ mailed e.stamp (a.sends dst);
  gone = consumed a.consumes e.event s.gone;
})

-- one entry: an event of this node, whose message wasn't consumed before
unfoldable pub local_step : Shape → Program → Node → Entry → Side → Option Side
local_step sh p n e s =
    if node_eq (at_node e.event) n && (names_nodes sh e.event && not (is_gone s.gone e.event))
    then side_after e s (act sh p s.state e.event e.msg)
    else None

abbrev pub side_then : (Side → Option Side) → Option Side → Option Side
side_then f None = None
side_then f (Some s) = f s

-- Local run: the node after its log
unfoldable pub local : Shape → Program → Node → List Entry → Side → Option Side
local sh p n [] s = Some s
local sh p n (e ∷ es) s = side_then (local sh p n es) (local_step sh p n e s)
