-- The first so many directories have been made.
use Rattle.image_load.specs.Contents.{started}
use Rattle.machine_dirs.proofs.Starts.{Begun}
use Rattle.machine_dirs.proofs.bank.start_dirs.Given as goal

abbrev pub invariant-loop-d : goal.invariant-loop-d
invariant-loop-d l = Begun (started l.loaded) l.config l.d l.dirs
