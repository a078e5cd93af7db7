-- Flag by flag.
use Rattle.std.proofs.Common.{◌<◌, ◌≤◌, ◌+◌, ap, arith, subst}
use Rattle.directory.specs.Data.{dir_of}
use Rattle.checkpoint_text.proofs.DirRows.{flag-more, flags-end}
use Rattle.checkpoint_text.proofs.dir_rows.push_flags.Goals as goal

pub loop-i-preserved : goal.loop-i-preserved
unfolding dir_of
loop-i-preserved c =
    let l = subst (λ n. c.loop-i.i < n) (c.skips_ahead-i-end.ensures.count (λ w. 0)) c.loop-i-test.true in
    flag-more c.args.dir.now.serving c.loop-i.i _ _ _ _ _ _ l (ap (λ n. n + 1 + c.loop-i.i) (c.serving-serving.ensures (λ w. 0)))
    (c.is_skipped-skipped.ensures (λ w. 0)) c.flag.ensures c.loop-i.invariant c.in_ok-push_number.ensures

pub overflow_add-serving : goal.overflow_add-serving
overflow_add-serving c =
    omega (arith, c.serving-serving.ensures (λ w. 0), c.skips_ahead-i-end.ensures.fits (λ w. 0), c.loop-i-test.true)

pub overflow_add-serving-in-loop-i : goal.overflow_add-serving-in-loop-i
overflow_add-serving-in-loop-i c =
    omega (arith, c.serving-serving.ensures (λ w. 0), c.skips_ahead-i-end.ensures.fits (λ w. 0), c.loop-i-test.true)

pub returns-clause-text : goal.returns-clause-text
unfolding dir_of
returns-clause-text c =
    flags-end c.args.dir.now.serving.skips c.loop-i.i _ _
    (subst (λ n. n ≤ c.loop-i.i) (c.skips_ahead-i-end.ensures.count (λ w. 0)) c.loop-i-test.false) c.loop-i.invariant
