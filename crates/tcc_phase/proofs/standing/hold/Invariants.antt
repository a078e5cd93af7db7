-- Those of the cores so far are listed.
use Rattle.std.proofs.Common.{◌≡◌, ◌≤◌}
use Rattle.std.specs.Prelude.{vec_capacity}
use Rattle.rules_maps.specs.Words.{those}
use Rattle.net_core.specs.Machine.{program_of, settings_of, world_of}
use Rattle.tcc_phase.specs.Requests.{is_above}
use Rattle.tcc_phase.proofs.standing.hold.Given as goal

abbrev pub invariant-loop-core : goal.invariant-loop-core
invariant-loop-core l =
    (l.held.items ≡ those (is_above (settings_of l.system) (program_of l.system) (world_of l.system) l.least l.own l.asked) l.core)
    × ((settings_of l.system).cores ≤ vec_capacity l.held)
