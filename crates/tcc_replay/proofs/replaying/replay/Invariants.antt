-- So many events were taken.
use Rattle.tcc_replay.proofs.Prefixes.{TookFirst}
use Rattle.tcc_replay.proofs.replaying.replay.Given as goal

abbrev pub invariant-loop-e : goal.invariant-loop-e
invariant-loop-e l = TookFirst l.machine l.loaded l.events l.e-index
