-- What the words so far picked was taken.
use Rattle.tcc_pick.specs.Words.{seeded}
use Rattle.tcc_phase.proofs.Picked.{Going}
use Rattle.tcc_phase.proofs.running.phase_run.Given as goal

abbrev pub invariant-loop : goal.invariant-loop
invariant-loop l = Going l.loaded l.system (seeded l.seed) l.words l.steps l.counter
