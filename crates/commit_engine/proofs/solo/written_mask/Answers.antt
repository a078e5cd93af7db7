use Rattle.std.proofs.Common.{◌≡◌, sym}
use Rattle.rules_maps.specs.Cache.{modified_mask}
use Rattle.spec_cache.specs.Held.{maps}
use Rattle.overflow_buf.specs.Kept.{spilled as words_of}
use Rattle.commit_engine.proofs.SoloMasks.{masks_join, mask_absent}
use Rattle.commit_engine.proofs.solo.written_mask.Goals.{in-None, in-Some}
use Rattle.commit_engine.proofs.solo.written_mask.Goals as goal

pub returns : goal.returns
returns c =
    let l = c.args.line.0 in
    let m = maps c.args.cache.now in
    let own : c.match-frame_of.modified ≡ modified_mask m l = elim c.match-frame_of.branch [
      | in-None w ↦ rw w.modified-is (sym (mask_absent c.args.cache.now.config m l c.frame_of.ensures.consistent w.in-None.ensures.view))
      | in-Some w ↦ rw w.modified-is w.in-Some.ensures.view.1.modified
    ] in
    rw (own, c.mask.ensures) (masks_join m (words_of c.args.spilled.now) l)
