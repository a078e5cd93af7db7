-- The first event that may come isn't among those that were passed over.
use Rattle.std.proofs.Common.{◌≡◌, drop}
use Rattle.std.specs.Prelude.{option_map}
use Rattle.net_core.specs.Machine.{program_of, settings_of, world_of}
use Rattle.rules_tcc.specs.Useful.{useful}
use Rattle.run_follow.specs.Following.{next_of}
use Rattle.run_follow.proofs.following.next_event.Given as goal

abbrev pub invariant-loop-k : goal.invariant-loop-k
invariant-loop-k l =
    let turn = option_map (λ t. t.0) l.turn in
    let us = useful (settings_of l.system) (program_of l.system) (world_of l.system) in
    next_of turn us ≡ next_of turn (drop l.k us)
