-- What is told, with what is left, is all.
use Rattle.std.proofs.Common.{◌≡◌, ◌++◌, drop, map}
use Rattle.rules_maps.specs.Bridge.{node_of}
use Rattle.watch.specs.Plain.{fact_of}
use Rattle.watch_machine.specs.Rising.{each_told}
use Rattle.watch_machine.proofs.sending.tell_each.Given as goal

abbrev pub invariant-loop-dst : goal.invariant-loop-dst
invariant-loop-dst l =
    map fact_of l.facts ++ each_told l.system (node_of l.src) (drop l.dst-index l.messages)
    ≡ map fact_of l.fn.facts ++ each_told l.system (node_of l.src) l.messages
