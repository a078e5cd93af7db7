-- The records of the nodes so far are told.
use Rattle.std.proofs.Common.{◌≡◌, ◌++◌}
use Rattle.std.specs.List.{flat_map}
use Rattle.std.specs.String.{string_bytes}
use Rattle.rules_maps.specs.Nodes.{Core}
use Rattle.rules_tcc.specs.Seen.{numbers}
use Rattle.watch_changes.specs.Changes.{all_lines}
use Rattle.watch_changes.specs.Plain.{records_now}
use Rattle.watch_changes.proofs.window.push_cores.Given as goal

abbrev pub invariant-loop-core : goal.invariant-loop-core
invariant-loop-core l =
    string_bytes l.text ≡ string_bytes l.fn.text ++ flat_map (λ k. all_lines (records_now l.system (Core k))) (numbers l.core)
