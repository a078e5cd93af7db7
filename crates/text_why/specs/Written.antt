-- The nodes and events of the rules, as those that the lines of a schedule show.
use Rattle.tcc_base.specs.declared.names.NodeId.{NodeId}
use Rattle.tcc_base.specs.declared.names.NodeId.TheVariants as shown_node
use Rattle.rules_maps.specs.Nodes.{Node, Core, Dir, Vendor, Event, Exec, Evict, Deliver}
use Rattle.tcc_msg.specs.declared.event.Event.{Event as ShownEvent}
use Rattle.tcc_msg.specs.declared.event.Event.TheVariants as shown_event

abbrev pub shown_node_of : Node → NodeId
shown_node_of (Core c) = shown_node.Core (record { 0 = c })
shown_node_of (Dir d) = shown_node.Dir (record { 0 = d })
shown_node_of Vendor = shown_node.Vendor

abbrev pub shown_event_of : Event → ShownEvent
shown_event_of (Exec c) = shown_event.Exec (record { 0 = c })
shown_event_of (Evict c set way) = shown_event.Evict (record { 0 = c }) set way
shown_event_of (Deliver src dst k) = shown_event.Deliver (record { src = shown_node_of src; dst = shown_node_of dst; seq = k })
