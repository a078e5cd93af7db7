-- The event that was chosen, and why the node can do it.
use Rattle.std.specs.Prelude.{ℕ, ◌≡◌, ◌<◌, ◌≤◌, ◌%◌, ◌^◌, max, length, Option, Some, None, slice_get, option_map}
use Rattle.tcc_base.specs.Limits.{run_limit}
use Rattle.rules_maps.specs.Bridge.{node_of}
use Rattle.rules_maps.specs.Nodes.{Node, Event, Exec, Evict, Deliver}
use Rattle.tcc_msg.specs.Plain.{event_of, msg_of}
use Rattle.rules_tcc.specs.Local as rules
use Rattle.rules_apart.specs.Carried.{IsCarried}
use Rattle.rules_apart.specs.Filled.{mail_of}
use Rattle.apart_member.specs.Acting.{MayDo}
use Rattle.apart_member.specs.Data.{MemberData}
use Rattle.apart_node.specs.Choice.{useful, stamp_after}
use Rattle.apart_node.specs.Node.{NodeData, last_stamp, here}
use Rattle.apart_node.specs.Peers.{seat}
use Rattle.apart_node.specs.Ports.{PortData, RoomData}
use Rattle.apart_node.specs.declared.port.Letter.{Letter}
use Rattle.apart_node.specs.declared.room.Waiting.{Waiting}
use Rattle.apart_node.specs.declared.choosing.Deed.{Deed}

-- the letter stands in the pool, and the link brought it under its number
pub record IsLetter (p : PortData) (l : Letter) : Type 0 where
  pub entry : slice_get p.pool l.place ≡ Some (l.number, l.mail)
  pub brought : slice_get p.inlet.got l.number ≡ Some l.mail
  pub carried : IsCarried p.inlet.ends.settings (node_of p.inlet.ends.src) (node_of p.inlet.ends.dst) (msg_of l.mail.msg)

-- the letter waits at the port of its sender
pub record IsWaiting (r : RoomData) (w : Waiting) : Type 0 where
  pub port : PortData
  pub at : slice_get r.ports w.seat ≡ Some port
  pub place : seat r.settings (node_of r.own) (node_of w.src) ≡ Some w.seat
  pub letter : IsLetter port w.letter
  pub carried : IsCarried r.settings (node_of w.src) (node_of r.own) (msg_of w.letter.mail.msg)

-- and the member may handle it
pub record IsReady (r : RoomData) (m : MemberData) (last : ℕ) (w : Waiting) : Type 0 where
  pub waits : IsWaiting r w
  pub early : max last w.letter.mail.stamp < 2 ^ 62
  pub may : MayDo m (Deliver (node_of w.src) (node_of m.node) w.letter.number) (Some (msg_of w.letter.mail.msg))

abbrev pub mail_in : Option Waiting → Option rules.Mail
mail_in None = None
mail_in (Some w) = Some (mail_of w.letter.mail)

-- the event is one of its own, or the delivery of what waits
abbrev pub IsFor : RoomData → (own : Node) → Event → Option Waiting → Type 0
IsFor r own (Deliver src dst k) None = ⊥
IsFor r own (Exec c) None = Unit {0}
IsFor r own (Evict c x y) None = Unit {0}
IsFor r own e (Some w) = IsWaiting r w × (e ≡ Deliver (node_of w.src) own w.letter.number)

-- the node can do it now
pub record IsPossible (n : NodeData) (d : Deed) : Type 0 where
  pub few : length n.log < run_limit
  pub early : stamp_after (last_stamp n.log) (mail_in d.waiting) ≤ 2 ^ 62
  pub may : MayDo n.member (event_of d.event) (option_map (λ m. m.msg) (mail_in d.waiting))
  pub waits : IsFor n.room (here n) (event_of d.event) d.waiting

-- it is the one that the number picks
pub record IsChoice (n : NodeData) (pick : ℕ) (d : Deed) : Type 0 where
  pub picked : slice_get (useful n) (pick % length (useful n)) ≡ Some (event_of d.event, mail_in d.waiting)
  pub possible : IsPossible n d
