-- The lines of the ways so far are written.
use Rattle.std.proofs.Common.{◌≡◌, ◌++◌, string_bytes}
use Rattle.std.specs.List.{flat_map}
use Rattle.rules_maps.specs.Nodes.{Evict}
use Rattle.rules_tcc.specs.Seen.{numbers}
use Rattle.watch_state.proofs.Flying.{text_of_event}
use Rattle.watch_state.proofs.events.push_set_evicts.Given as goal

abbrev pub invariant-loop-way : goal.invariant-loop-way
invariant-loop-way l =
    string_bytes l.text
    ≡ string_bytes l.fn.text
    ++ flat_map (λ k. text_of_event l.system (Evict l.core.0 l.set k)) (numbers l.way)
