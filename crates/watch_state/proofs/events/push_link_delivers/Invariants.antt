-- The deliveries of the messages so far are written.
use Rattle.std.proofs.Common.{◌≡◌, ◌++◌, string_bytes, take}
use Rattle.std.specs.List.{flat_map}
use Rattle.rules_maps.specs.Bridge.{node_of}
use Rattle.net_core.specs.Machine.{world_of}
use Rattle.watch_state.proofs.Flying.{deliver_text, flying_on}
use Rattle.watch_state.proofs.events.push_link_delivers.Given as goal

abbrev pub invariant-loop-i : goal.invariant-loop-i
invariant-loop-i l =
    string_bytes l.text
    ≡ string_bytes l.fn.text
    ++ flat_map (deliver_text l.system (node_of l.src) (node_of l.dst))
    (take l.i (flying_on (world_of l.system) (node_of l.src) (node_of l.dst)))
