-- The ports of a node as plain data, and what went through them as the rules have it.
use Rattle.std.specs.Prelude.{ℕ, ◌≡◌, ◌<◌, ◌==◌, not, List, [], ◌++◌, map, length, Option, Some, None, slice_get, option_and_then, All}
use Rattle.std.specs.List.{filter}
use Rattle.tcc_base.specs.Settings.{Settings, IsAllowed}
use Rattle.tcc_base.specs.declared.names.NodeId.{NodeId}
use Rattle.rules_maps.specs.Bridge.{node_of}
use Rattle.rules_maps.specs.Nodes.{Node}
use Rattle.tcc_msg.specs.Plain.{msg_of, sends_of}
use Rattle.tcc_msg.specs.declared.msg.Msg.{Msg}
use Rattle.rules_tcc.specs.Local as rules
use Rattle.rules_apart.specs.Carried.{IsCarried}
use Rattle.rules_apart.specs.Filled.{mail_of}
use Rattle.rules_apart.specs.declared.logs.Mail.{Mail}
use Rattle.net_links.specs.Views.{OutletData, InletData}
use Rattle.apart_node.specs.Peers.{seat, peer_count}

-- the ends of the links to and from one peer, and the messages from there that wait, each with its number on the link, in the order of
-- arrival
pub record PortData : Type 0 where
  pub outlet : OutletData
  pub inlet : InletData
  pub pool : List (ℕ × Mail)

-- the ports of a node in their order, and what it has sent that its links don't hold yet
pub record RoomData : Type 0 where
  pub settings : Settings
  pub own : NodeId
  pub ports : List PortData
  pub unsent : List (NodeId × Msg)

unfoldable pub port_to : RoomData → (peer : Node) → Option PortData
port_to r peer = option_and_then (slice_get r.ports) (seat r.settings (node_of r.own) peer)

abbrev pub got_at : Option PortData → List rules.Mail
got_at None = []
got_at (Some p) = map mail_of p.inlet.got

abbrev pub sent_at : Option PortData → List rules.Mail
sent_at None = []
sent_at (Some p) = map mail_of p.outlet.sent

-- what came from a peer, by number
abbrev pub taken_from : RoomData → (src : Node) → List rules.Mail
taken_from r src = got_at (port_to r src)

-- what was sent to a peer, by number; what isn't on the link yet has the stamp of the last event
abbrev pub handed_to : RoomData → (stamp : ℕ) → (dst : Node) → List rules.Mail
handed_to r stamp dst = sent_at (port_to r dst) ++ rules.mailed stamp (sends_of r.unsent dst)

-- what waits is what the link brought under that number, and one that the link carries
pub record IsEntry (i : InletData) (e : ℕ × Mail) : Type 0 where
  pub brought : slice_get i.got e.0 ≡ Some e.1
  pub carried : IsCarried i.ends.settings (node_of i.ends.src) (node_of i.ends.dst) (msg_of e.1.msg)

-- the entries of a pool but for the one of this number
abbrev pub all_but : ℕ → List (ℕ × Mail) → List (ℕ × Mail)
all_but n es = filter (λ e. not (e.0 == n)) es

-- numbers rise
abbrev pub NumbersRise : List (ℕ × Mail) → Type 0
NumbersRise es = (i j : ℕ) (d e : ℕ × Mail) → i < j → slice_get es i ≡ Some d → slice_get es j ≡ Some e → d.0 < e.0

pub record IsPort (p : PortData) : Type 0 where
  pub entries : All (IsEntry p.inlet) p.pool
  pub rise : NumbersRise p.pool

-- the port of this place: both links are between the node and the peer whose place that is
pub record IsPortAt (s : Settings) (own : Node) (k : ℕ) (p : PortData) : Type 0 where
  pub place : seat s own (node_of p.outlet.ends.dst) ≡ Some k
  pub mirrored : p.inlet.ends.src ≡ p.outlet.ends.dst
  pub out_settings : p.outlet.ends.settings ≡ s
  pub in_settings : p.inlet.ends.settings ≡ s
  pub out_own : node_of p.outlet.ends.src ≡ own
  pub in_own : node_of p.inlet.ends.dst ≡ own

-- nothing went through it
pub record IsUnused (p : PortData) : Type 0 where
  pub sent : p.outlet.sent ≡ []
  pub got : p.inlet.got ≡ []
  pub pool : p.pool ≡ []

-- a port of the node a to the node b through which nothing went
pub record IsBetween (s : Settings) (a b : NodeId) (p : PortData) : Type 0 where
  pub out : p.outlet.ends ≡ record { settings = s; src = a; dst = b }
  pub in' : p.inlet.ends ≡ record { settings = s; src = b; dst = a }
  pub unused : IsUnused p

-- the ports of two nodes to one another: what the one sends the other takes
pub record ArePaired (s : Settings) (a b : NodeId) (p q : PortData) : Type 0 where
  pub one : IsBetween s a b p
  pub other : IsBetween s b a q
  pub there : q.inlet.link ≡ p.outlet.link
  pub back : p.inlet.link ≡ q.outlet.link

-- a port for each peer, in order
pub record ArePorts (s : Settings) (own : Node) (ports : List PortData) : Type 0 where
  pub count : length ports ≡ peer_count s own
  pub each : (k : ℕ) (p : PortData) → slice_get ports k ≡ Some p → IsPortAt s own k p

-- what the links must carry
abbrev pub AreCarried : Settings → (own : Node) → List (NodeId × Msg) → Type 0
AreCarried s own sends = All (λ e. IsCarried s own (node_of e.0) (msg_of e.1)) sends

pub record IsRoom (r : RoomData) : Type 0 where
  pub allowed : IsAllowed r.settings
  pub ports : ArePorts r.settings (node_of r.own) r.ports
  pub unsent : AreCarried r.settings (node_of r.own) r.unsent
