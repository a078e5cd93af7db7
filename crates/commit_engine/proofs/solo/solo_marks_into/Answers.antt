use Rattle.std.proofs.Common.{ℕ, arith, refl}
use Rattle.rules_tcc.specs.Commit.{written_mask}
use Rattle.spec_cache.specs.Held.{maps}
use Rattle.overflow_buf.specs.Kept.{spilled as words_of}
use Rattle.commit_engine.proofs.WrittenLines.{marks-in, marks-out, marks-whole}
use Rattle.commit_engine.proofs.solo.solo_marks_into.Goals.{then-line-end+in-Ok, else-line-end}
use Rattle.commit_engine.proofs.solo.solo_marks_into.Goals as goal

pub loop-line-init : goal.loop-line-init
loop-line-init c = record { made = rw c.clear.ensures.items refl }

pub loop-line-preserved : goal.loop-line-preserved
loop-line-preserved c =
    let f : ℕ → ℕ = written_mask (maps c.args.cache.now) (words_of c.args.spilled.now) in
    elim c.if-line-end.branch [
      | then-line-end+in-Ok w ↦ record {
        made =
            rw (w.marks-is, w.in-Ok.ensures.items)
            (marks-in f _ c.deref-line-items.result.now c.loop-line.line-index 0 c.loop-line.marks.items _
            w.written_mask-mask.result c.loop-line-test.true refl w.if-line-end.true w.written_mask-mask.ensures
            c.loop-line.invariant.made);
      }
      | else-line-end w ↦ record {
        made =
            rw w.marks-is (marks-out f _ c.deref-line-items.result.now c.loop-line.line-index 0 _ c.loop-line-test.true w.if-line-end.false
            c.loop-line.invariant.made);
      }
    ]

pub returns : goal.returns
returns c =
    let v = c.deref-line-items.ensures.value in
    marks-whole c.args.cfg.now (maps c.args.cache.now) (words_of c.args.spilled.now) c.in_ok-lines.lines.items _ c.loop-line.line-index _
    (omega (arith, c.words-end.ensures.value)) (rw v at c.loop-line-test.false) c.in_ok-lines.ensures.rising c.in_ok-lines.ensures.each
    c.in_ok-lines.ensures.only (rw v at c.loop-line.invariant.made)
