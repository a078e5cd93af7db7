-- The nodes, messages and events of the code as those of the protocol's rules, which are plain data over numbers.
use Rattle.std.specs.Prelude.{List, [], ◌∷◌, ◌++◌, if◌then◌else◌}
use Rattle.tcc_base.specs.declared.names.NodeId.{NodeId}
use Rattle.rules_maps.specs.Nodes as plain
use Rattle.rules_maps.specs.Bridge.{node_of}
use Rattle.tcc_msg.specs.declared.msg.Msg.{Msg}
use Rattle.tcc_msg.specs.declared.msg.Msg.TheVariants as code
use Rattle.tcc_msg.specs.declared.event.Event.{Event}
use Rattle.tcc_msg.specs.declared.event.Event.TheVariants as code_event

abbrev pub msg_of : Msg → plain.Msg
msg_of code.TidReq = plain.TidReq
msg_of (code.TidGrant tid) = plain.TidGrant tid.0
msg_of (code.LoadReq line after) = plain.LoadReq line.0 after.0
msg_of (code.Fill line words) = plain.Fill line.0 words
msg_of (code.Skip tid) = plain.Skip tid.0
msg_of (code.Probe tid) = plain.Probe tid.0
msg_of (code.ProbeReply tid serving) = plain.ProbeReply tid.0 serving.0
msg_of (code.Mark line mask tid) = plain.Mark line.0 mask.0 tid.0
msg_of (code.Commit tid count) = plain.Commit tid.0 count
msg_of (code.Abort tid) = plain.Abort tid.0
msg_of (code.WriteBack mask line words tag) = plain.WriteBack line.0 mask.0 words tag.0
msg_of (code.Flush mask line words tag) = plain.Flush line.0 mask.0 words tag.0
msg_of (code.DataReq line) = plain.DataReq line.0
msg_of (code.Inv line mask tid) = plain.Inv line.0 mask.0 tid.0
msg_of (code.InvAck line keeps) = plain.InvAck line.0 keeps

abbrev pub event_of : Event → plain.Event
event_of (code_event.Exec c) = plain.Exec c.0
event_of (code_event.Evict c set way) = plain.Evict c.0 set way
event_of (code_event.Deliver n) = plain.Deliver (node_of n.src) (node_of n.dst) n.seq

-- what goes to one node, in order
unfoldable pub sends_of : List (NodeId × Msg) → plain.Node → List plain.Msg
sends_of [] n = []
sends_of (e ∷ rest) n = (if plain.node_eq n (node_of e.0) then msg_of e.1 ∷ [] else []) ++ sends_of rest n
