use Rattle.std.proofs.Common.{◌∙◌, ap, arith}
use Rattle.rules_maps.specs.Cache.{dirty_copy}
use Rattle.spec_cache.specs.Frame.{stored_frame}
use Rattle.spec_cache.specs.Held.{maps}
use Rattle.spec_cache.proofs.Calls.{fits_stored, stored_maps}
use Rattle.spec_cache.proofs.Handed.{part_of}
use Rattle.spec_cache.proofs.frames.Frames.store.Goals as goal

pub put-requires-clause-fits : goal.put-requires-clause-fits
put-requires-clause-fits g c =
    fits_stored (g.Self.Ways.held c.args.self.now) c.seek-at.ensures.in_order c.line_of_word.result.0 c.seek-at.result
    c.seek-at.ensures.found _ c.place_of_word.result c.args.value c.args.mark_read
    (rw c.place_of_word.ensures (omega arith)) c.store-out.ensures.frame

pub returns-clause-maps : goal.returns-clause-maps
returns-clause-maps g c =
    stored_maps (g.Self.Ways.held c.args.self.now) c.seek-at.ensures.in_order c.line_of_word.result.0 c.seek-at.result
    c.seek-at.ensures.found _ _ c.put.ensures c.args.w.0 c.line_of_word.ensures c.args.value c.args.mark_read
    (c.store-out.ensures.frame ∙ ap (λ k. stored_frame k c.args.value c.args.mark_read c.seek-at.result.1) c.place_of_word.ensures)

pub returns-clause-out : goal.returns-clause-out
returns-clause-out g c =
    part_of (g.Self.Ways.held c.args.self.now) c.seek-at.ensures.in_order c.line_of_word.result.0 c.seek-at.result c.seek-at.ensures.found
    c.store-out.result c.store-out.ensures.part ∙ ap (dirty_copy (maps (g.Self.Ways.held c.args.self.now))) c.line_of_word.ensures
