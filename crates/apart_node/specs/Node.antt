-- A node as plain data: a member, its log and its ports.
use Rattle.std.specs.Prelude.{ℕ, ◌≡◌, ◌<◌, ◌≤◌, ◌^◌, false, List, [], ◌∷◌, map, length, Option, Some, slice_get, IfSome, IsSomeAnd, All}
use Rattle.image_load.specs.Contents.{started}
use Rattle.image_load.specs.Start.{Start}
use Rattle.rv_code.specs.Machine.{program}
use Rattle.rules_riscv.specs.Starting.{world_at_start}
use Rattle.tcc_base.specs.Limits.{run_limit}
use Rattle.tcc_base.specs.Settings.{Settings}
use Rattle.rules_maps.specs.Bridge.{node_of}
use Rattle.rules_maps.specs.Nodes.{Node, Event, Exec, Evict, Deliver}
use Rattle.tcc_msg.specs.Plain.{event_of}
use Rattle.rules_tcc.specs.Local as rules
use Rattle.rules_tcc.specs.Merged.{Rises}
use Rattle.rules_apart.specs.Filled.{filled, bare}
use Rattle.rules_apart.specs.declared.logs.Logged.{Logged}
use Rattle.apart_member.specs.Data.{MemberData, state_of}
use Rattle.apart_node.specs.Ports.{RoomData, port_to, taken_from, handed_to}

pub record NodeData : Type 0 where
  pub member : MemberData
  pub log : List Logged
  pub room : RoomData

abbrev pub settings_of : NodeData → Settings
settings_of n = n.member.code.settings

abbrev pub here : NodeData → Node
here n = node_of n.member.node

-- the stamp of the last entry, 0 where there is none
unfoldable pub last_from : ℕ → List Logged → ℕ
last_from t [] = t
last_from t (e ∷ es) = last_from e.stamp es

abbrev pub last_stamp : List Logged → ℕ
last_stamp log = last_from 0 log

-- what came from a node and what was sent to it, by number
abbrev pub got_from : NodeData → (src : Node) → List rules.Mail
got_from n src = taken_from n.room src

abbrev pub sent_to : NodeData → (dst : Node) → List rules.Mail
sent_to n dst = handed_to n.room (last_stamp n.log) dst

-- the node by itself, after its log and by the rules
abbrev pub run_alone : Start → Node → (from : Node → List rules.Mail) → List Logged → Option rules.Side
run_alone s n from log =
    rules.local s.settings (program s) n (map (filled from) log) (rules.side_start (rules.state_at (world_at_start s) n))

-- the message that an event handles came under its number, with an earlier stamp
abbrev pub CameBefore : (from : Node → List rules.Mail) → (stamp : ℕ) → Event → Type 0
CameBefore from t (Deliver src dst k) = IsSomeAnd (slice_get (from src) k) (λ m. m.stamp < t)
CameBefore from t (Exec c) = Unit {0}
CameBefore from t (Evict c x y) = Unit {0}

abbrev pub AreStored : (from : Node → List rules.Mail) → List Logged → Type 0
AreStored from log = All (λ e. CameBefore from e.stamp (event_of e.event)) log

-- what the run of the log says of what the node sent, took and holds
pub record IsRun (n : NodeData) (side : rules.Side) : Type 0 where
  -- By the rules the node does what its log says, with what came to it.
  pub run : run_alone (started n.member.code) (here n) (got_from n) n.log ≡ Some side
  -- That leads to its state,
  pub state : side.state ≡ state_of n.member
  -- and sends what it has sent.
  pub sent : (dst : Node) → side.sent dst ≡ sent_to n dst
  -- What waits wasn't consumed,
  pub fresh : (src : Node) → IfSome (port_to n.room src) (λ p. All (λ e. side.gone src e.0 ≡ false) p.pool)
  -- nor was what hasn't come.
  pub ahead : (src : Node) (k : ℕ) → length (got_from n src) ≤ k → side.gone src k ≡ false

-- what always holds of a node
pub record IsNode (n : NodeData) : Type 0 where
  pub side : rules.Side
  pub run : IsRun n side
  -- Each message that it handled came before, with an earlier stamp; and stamps rise, from 1 to 2^62.
  pub stored : AreStored (got_from n) n.log
  pub rises : Rises (map bare n.log)
  pub stamps : last_stamp n.log ≤ 2 ^ 62
  -- It has done what its log says, and that has an end.
  pub done : n.member.done ≡ length n.log
  pub few : length n.log ≤ run_limit
  -- Its ports are its own.
  pub settings : n.room.settings ≡ n.member.code.settings
  pub own : n.room.own ≡ n.member.node
