-- The deliveries from the nodes so far are written.
use Rattle.std.proofs.Common.{◌≡◌, ◌++◌, string_bytes, take}
use Rattle.std.specs.List.{flat_map}
use Rattle.rules_tcc.specs.Useful.{nodes}
use Rattle.net_core.specs.Machine.{program_of, settings_of, world_of}
use Rattle.watch_state.specs.Events.{delivers_from}
use Rattle.watch_state.specs.Text.{events_text}
use Rattle.watch_state.proofs.events.push_delivers.Given as goal

abbrev pub invariant-loop-place : goal.invariant-loop-place
invariant-loop-place l =
    string_bytes l.text
    ≡ string_bytes l.fn.text
    ++ events_text (settings_of l.system) (program_of l.system) (world_of l.system)
    (flat_map (delivers_from (settings_of l.system) (world_of l.system)) (take l.place (nodes (settings_of l.system))))
