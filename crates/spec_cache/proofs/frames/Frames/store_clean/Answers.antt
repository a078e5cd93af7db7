use Rattle.std.proofs.Common.{◌≡◌, ◌∙◌, ap, sym, refl, arith, None}
use Rattle.rules_maps.specs.Cache.{dirty_copy}
use Rattle.spec_cache.specs.declared.frame.FrameView.{FrameView}
use Rattle.spec_cache.specs.Frame.{stored_frame, dirty_part}
use Rattle.spec_cache.specs.Held.{maps}
use Rattle.spec_cache.proofs.Calls.{fits_stored, stored_maps}
use Rattle.spec_cache.proofs.Handed.{part_of}
use Rattle.spec_cache.proofs.Looks.{is_held}
use Rattle.spec_cache.proofs.frames.Frames.store_clean.Goals as goal

no_part : (f : FrameView) → f.dirty.0 ≡ 0 → None ≡ dirty_part f
unfolding dirty_part
no_part f e = rw e refl

pub put-requires-clause-fits : goal.put-requires-clause-fits
put-requires-clause-fits g c =
    fits_stored (g.Self.Ways.held c.args.self.now) c.find.ensures.in_order c.line_of_word-line.result.0
    (c.in-Some.at, c.in-Some.frame) c.in-Some.ensures.found _ c.place_of_word.result c.args.value c.args.mark_read
    (rw c.place_of_word.ensures (omega arith)) c.store.ensures.frame

pub returns-clause-does : goal.returns-clause-does
returns-clause-does g c =
    let h = g.Self.Ways.held c.args.self.now in
    let l = c.line_of_word-line.result.0 in
    let f = c.in-Some.frame in
    record {
      held = ap (maps h).held (sym c.line_of_word-line.ensures)
          ∙ is_held h c.find.ensures.in_order l (c.in-Some.at, f) c.in-Some.ensures.found;
      clean = ap (dirty_copy (maps h)) (sym c.line_of_word-line.ensures)
          ∙ sym (part_of h c.find.ensures.in_order l (c.in-Some.at, f) c.in-Some.ensures.found None (no_part f c.if-frame-ne0.false));
      maps = stored_maps h c.find.ensures.in_order l (c.in-Some.at, f) c.in-Some.ensures.found _ _ c.put.ensures c.args.w.0
          c.line_of_word-line.ensures c.args.value c.args.mark_read
          (c.store.ensures.frame ∙ ap (λ k. stored_frame k c.args.value c.args.mark_read f) c.place_of_word.ensures);
    }
