-- The rules lead to one state.
use Rattle.tcc_replay.proofs.Prefixes.{one-machine}
use Rattle.tcc_replay.proofs.replaying.equal_events_give_equal_machines.Goals as goal

pub returns : goal.returns
returns c = one-machine
