-- What went to the nodes so far is told.
use Rattle.std.proofs.Common.{◌≡◌, ◌++◌, map, take}
use Rattle.std.specs.List.{flat_map}
use Rattle.rules_maps.specs.Bridge.{node_of}
use Rattle.rules_tcc.specs.Useful.{nodes}
use Rattle.net_core.specs.Machine.{settings_of}
use Rattle.watch.specs.Plain.{fact_of}
use Rattle.watch_machine.specs.Telling.{last_to}
use Rattle.watch_machine.proofs.sending.tell_links.Given as goal

abbrev pub invariant-loop-place : goal.invariant-loop-place
invariant-loop-place l =
    map fact_of l.facts
    ≡ map fact_of l.fn.facts ++ flat_map (last_to l.system (node_of l.src)) (take l.place (nodes (settings_of l.system)))
