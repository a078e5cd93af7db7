-- The records of the directories so far are written.
use Rattle.std.proofs.Common.{◌≡◌, ◌++◌, string_bytes}
use Rattle.std.specs.List.{flat_map}
use Rattle.image_load.specs.Start.{first_ram}
use Rattle.rules_tcc.specs.Seen.{numbers}
use Rattle.net_core.specs.Machine.{settings_of, start_of, world_of}
use Rattle.watch_state.specs.Directories.{directory_records}
use Rattle.watch_state.specs.Lines.{record_lines}
use Rattle.watch_state.proofs.nodes.push_directories.Given as goal

abbrev pub invariant-loop-dir : goal.invariant-loop-dir
invariant-loop-dir l =
    string_bytes l.text
    ≡ string_bytes l.fn.text
    ++ record_lines (flat_map
    (λ d. directory_records (settings_of l.system) (first_ram (start_of l.system)) d ((world_of l.system).dirs d)) (numbers l.dir))
