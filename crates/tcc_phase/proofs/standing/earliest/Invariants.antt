-- The least of the cores so far.
use Rattle.std.proofs.Common.{◌≡◌, ℕ}
use Rattle.net_core.specs.Machine.{world_of}
use Rattle.tcc_phase.specs.Requests.{is_behind, is_below}
use Rattle.tcc_phase.proofs.standing.earliest.Given as goal

abbrev pub invariant-loop-core : goal.invariant-loop-core
invariant-loop-core l = (q : ℕ) → is_behind l.core (world_of l.system) l.own q ≡ is_below l.least q
