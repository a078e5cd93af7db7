-- The rules lead on from each of its beginnings.
use Rattle.tcc_replay.proofs.Prefixes.{none-refused}
use Rattle.tcc_replay.proofs.replaying.what_runs_is_not_refused.Goals as goal

pub returns : goal.returns
returns c = none-refused
