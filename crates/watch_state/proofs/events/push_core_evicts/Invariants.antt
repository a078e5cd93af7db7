-- The lines of the sets so far are written.
use Rattle.std.proofs.Common.{◌≡◌, ◌++◌, string_bytes}
use Rattle.std.specs.List.{flat_map}
use Rattle.rules_tcc.specs.Seen.{numbers}
use Rattle.net_core.specs.Machine.{program_of, settings_of, world_of}
use Rattle.watch_state.specs.Events.{set_evicts}
use Rattle.watch_state.specs.Text.{events_text}
use Rattle.watch_state.proofs.events.push_core_evicts.Given as goal

abbrev pub invariant-loop-set : goal.invariant-loop-set
invariant-loop-set l =
    string_bytes l.text
    ≡ string_bytes l.fn.text
    ++ events_text (settings_of l.system) (program_of l.system) (world_of l.system)
    (flat_map (set_evicts (settings_of l.system) l.core.0) (numbers l.set))
