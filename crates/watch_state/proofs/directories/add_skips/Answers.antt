use Rattle.std.proofs.Common.{arith, map}
use Rattle.directory.specs.Data.{dir_of}
use Rattle.watch_state.specs.Directories.{skipped_record}
use Rattle.watch_state.specs.Plain.{record_of}
use Rattle.watch_state.proofs.Growing.{piece-more}
use Rattle.watch_state.proofs.directories.add_skips.Goals as goal

pub loop-k-preserved : goal.loop-k-preserved
unfolding skipped_record
loop-k-preserved c = λ e.
    piece-more (skipped_record c.args.id.0 (dir_of e c.args.dir.now).serving) c.loop-k.k
    (map record_of c.args.records.now) (map record_of c.loop-k.records) (map record_of c.add_if_skipped.new.records) (c.loop-k.invariant e)
    (rw (c.serving-serving.ensures e) at (c.in_ok-add_if_skipped.ensures e))

pub overflow_add-serving : goal.overflow_add-serving
overflow_add-serving c =
    omega (arith, c.serving-serving.ensures (λ w. 0), c.skips_ahead-k-end.ensures.fits (λ w. 0), c.loop-k-test.true)

pub overflow_add-serving-in-loop-k : goal.overflow_add-serving-in-loop-k
overflow_add-serving-in-loop-k c =
    omega (arith, c.serving-serving.ensures (λ w. 0), c.skips_ahead-k-end.ensures.fits (λ w. 0), c.loop-k-test.true)
