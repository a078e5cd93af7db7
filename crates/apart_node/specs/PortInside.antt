-- The parts of a port, and what always holds of them.
use Rattle.std.specs.Prelude.{ℕ, ◌≡◌, ◌<◌, ◌^◌, map, length, All}
use Rattle.tcc_base.specs.declared.names.NodeId.{NodeId}
use Rattle.tcc_msg.specs.declared.event.Name.{Name}
use Rattle.rules_apart.specs.declared.logs.Mail.{Mail}
use Rattle.apart_node.specs.Ports.{PortData, IsPort}
use Rattle.apart_node.specs.Tally.{hanging_in}
use Rattle.apart_node.specs.declared.port.Port.TheInside.{Inside}

-- a message with its number on the link
abbrev pub entry_of : Name × Mail → ℕ × Mail
entry_of e = (e.0.seq, e.1)

abbrev pub port_of : Inside → PortData
port_of p = record { outlet = p.outlet; inlet = p.inlet; pool = map entry_of p.pool.messages }

-- the name of a message from the one node to the other
pub record IsNamed (from to : NodeId) (e : Name × Mail) : Type 0 where
  pub src : e.0.src ≡ from
  pub dst : e.0.dst ≡ to

pub record IsPortInside (p : Inside) : Type 0 where
  pub own : p.own ≡ p.inlet.ends.dst
  pub peer : p.peer ≡ p.inlet.ends.src
  pub taken : p.taken ≡ length p.inlet.got
  pub names : All (IsNamed p.peer p.own) p.pool.messages
  pub port : IsPort (port_of p)
  pub few : length p.pool.messages < 2 ^ 32
  pub hanging : p.hanging ≡ length (hanging_in (port_of p))
