-- The words so far are those that were loaded.
use Rattle.std.proofs.Common.{◌%◌}
use Rattle.image_load.specs.Contents.{started}
use Rattle.bus_tcc.proofs.Starting.{AreWords}
use Rattle.bus_tcc.proofs.engine.start_words.Given as goal

abbrev pub invariant-loop-w : goal.invariant-loop-w
invariant-loop-w l = AreWords (λ w. (started l.fn.loaded).word w % 4294967296) l.w l.words
