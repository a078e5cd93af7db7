-- The lines of the cores so far are written.
use Rattle.std.proofs.Common.{◌≡◌, ◌++◌, string_bytes}
use Rattle.std.specs.List.{flat_map}
use Rattle.rules_maps.specs.Nodes.{Exec}
use Rattle.rules_tcc.specs.Seen.{numbers}
use Rattle.watch_state.proofs.Flying.{text_of_event}
use Rattle.watch_state.proofs.events.push_execs.Given as goal

abbrev pub invariant-loop-core : goal.invariant-loop-core
invariant-loop-core l =
    string_bytes l.text
    ≡ string_bytes l.fn.text
    ++ flat_map (λ k. text_of_event l.system (Exec k)) (numbers l.core)
