-- What a node can do now: its own useful events, and the messages that wait and that it would take.
use Rattle.std.specs.Prelude.{ℕ, Bool, ◌+◌, ◌^◌, ◌&&◌, max, nat_lt, is_some, List, [], ◌++◌, map, Option, Some, None, if◌then◌else◌}
use Rattle.std.specs.List.{filter, flat_map}
use Rattle.rules_maps.specs.Bridge.{node_of}
use Rattle.rules_maps.specs.Nodes.{Node, Event, Deliver}
use Rattle.tcc_msg.specs.Plain.{msg_of}
use Rattle.rules_tcc.specs.Local as rules
use Rattle.rules_apart.specs.Filled.{mail_of}
use Rattle.rules_apart.specs.declared.logs.Mail.{Mail}
use Rattle.apart_member.specs.Data.{MemberData, state_of}
use Rattle.apart_member.specs.Own.{own_events}
use Rattle.apart_node.specs.Ports.{PortData}
use Rattle.apart_node.specs.Node.{NodeData, last_stamp}

-- a stamp above the last one, and above that of the message that is handled
abbrev pub stamp_after : (last : ℕ) → Option rules.Mail → ℕ
stamp_after last None = last + 1
stamp_after last (Some m) = max last m.stamp + 1

-- it would take the message, and there is a stamp for that
abbrev pub is_ready : MemberData → (last : ℕ) → (src : Node) → Mail → Bool
is_ready m last src mail =
    nat_lt (max last mail.stamp) (2 ^ 62) && is_some (rules.takes m.code.settings (state_of m) src (Some (msg_of mail.msg)))

-- so it is of an entry of a pool
unfoldable pub ready : MemberData → (last : ℕ) → (src : Node) → ℕ × Mail → Bool
ready m last src e = is_ready m last src e.1

-- what waits at a port and can be handled now
unfoldable pub ready_in : MemberData → (last : ℕ) → PortData → List (ℕ × Mail)
ready_in m last p = filter (ready m last (node_of p.inlet.ends.src)) p.pool

abbrev pub delivery : (own src : Node) → ℕ × Mail → Event × Option rules.Mail
delivery own src e = (Deliver src own e.0, Some (mail_of e.1))

abbrev pub deliveries : MemberData → (last : ℕ) → PortData → List (Event × Option rules.Mail)
deliveries m last p = map (delivery (node_of m.node) (node_of p.inlet.ends.src)) (ready_in m last p)

unfoldable pub all_deliveries : MemberData → (last : ℕ) → List PortData → List (Event × Option rules.Mail)
all_deliveries m last ports = flat_map (deliveries m last) ports

abbrev pub alone : Event → Event × Option rules.Mail
alone e = (e, None)

unfoldable pub own_choices : MemberData → (last : ℕ) → List (Event × Option rules.Mail)
own_choices m last = if nat_lt last (2 ^ 62) then map alone (own_events m) else []

-- the useful events, each with the message that it handles: its own in their order, then those that wait by port and number
unfoldable pub useful : NodeData → List (Event × Option rules.Mail)
useful n = own_choices n.member (last_stamp n.log) ++ all_deliveries n.member (last_stamp n.log) n.room.ports
