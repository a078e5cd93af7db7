-- The records of the cores so far are written.
use Rattle.std.proofs.Common.{◌≡◌, ◌++◌, string_bytes}
use Rattle.std.specs.List.{flat_map}
use Rattle.rules_tcc.specs.Seen.{numbers}
use Rattle.net_core.specs.Machine.{settings_of, world_of}
use Rattle.watch_state.specs.Cores.{core_records}
use Rattle.watch_state.specs.Lines.{record_lines}
use Rattle.watch_state.proofs.nodes.push_cores.Given as goal

abbrev pub invariant-loop-core : goal.invariant-loop-core
invariant-loop-core l =
    string_bytes l.text
    ≡ string_bytes l.fn.text
    ++ record_lines (flat_map (λ c. core_records (settings_of l.system) c ((world_of l.system).cores c)) (numbers l.core))
