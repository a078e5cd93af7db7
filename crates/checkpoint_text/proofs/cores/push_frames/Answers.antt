-- Way by way.
use Rattle.std.proofs.Common.{◌<◌, ◌≤◌, ◌∙◌, subst, sym}
use Rattle.checkpoint_text.proofs.CoreRows.{frame-more, frame-none, frames-end}
use Rattle.checkpoint_text.proofs.cores.push_frames.Goals as goal
use Rattle.checkpoint_text.proofs.cores.push_frames.Goals.{in-Some+in_ok-push_frame, in_default}

pub loop-way-preserved : goal.loop-way-preserved
loop-way-preserved c =
    let ways = c.args.cache.now.frames in
    let l = subst (λ n. c.loop-way.way < n) c.way_count-way-end.ensures c.loop-way-test.true in
    elim c.match-way_at.branch [
      | in-Some+in_ok-push_frame w ↦ frame-more _ c.args.k ways _ w.in-Some.frame _ _ _ l (sym w.in-Some.is ∙ c.way_at.ensures)
          c.loop-way.invariant (w.text-is ∙ w.in_ok-push_frame.ensures)
      | in_default w ↦ rw w.text-is (frame-none _ c.args.k ways _ _ _ l (sym w.in_default.is ∙ c.way_at.ensures) c.loop-way.invariant)
    ]

pub returns : goal.returns
returns c =
    frames-end _ c.args.k c.args.cache.now.frames _ _ _ (subst (λ n. n ≤ c.loop-way.way) c.way_count-way-end.ensures c.loop-way-test.false)
    c.loop-way.invariant
