use Rattle.std.proofs.Common.{◌∙◌, sym, ap, Some, arith}
use Rattle.spec_cache.specs.Frame.{value_in, marked_frame}
use Rattle.spec_cache.specs.Held.{maps}
use Rattle.spec_cache.proofs.Calls.{fits_marked, marked_maps}
use Rattle.spec_cache.proofs.Looks.{look_load-absent, look_load-hit, look_load-miss}
use Rattle.spec_cache.proofs.Placing.{loaded_absent, loaded_miss, loaded_marked, loaded_same, loaded_unmarked}
use Rattle.spec_cache.proofs.frames.Frames.load.Goals as goal

pub returns-in_default-clause-maps : goal.returns-in_default-clause-maps
returns-in_default-clause-maps g c =
    loaded_absent (g.Self.Ways.held c.args.self.now) c.line_of_word-line.result.0 c.in_default.ensures.found c.args.w.0
    c.line_of_word-line.ensures c.args.mark

pub returns-in_default-clause-answer : goal.returns-in_default-clause-answer
returns-in_default-clause-answer g c =
    c.room_for.ensures ∙ sym
    (look_load-absent (g.Self.Ways.held c.args.self.now) c.line_of_word-line.result.0 c.in_default.ensures.found c.args.w.0
    c.line_of_word-line.ensures)

pub returns-in_default-word-clause-maps : goal.returns-in_default-word-clause-maps
returns-in_default-word-clause-maps g c =
    loaded_miss (g.Self.Ways.held c.args.self.now) c.find.ensures.in_order c.line_of_word-line.result.0
    (c.in-Some.at, c.in-Some.frame) c.in-Some.ensures.found c.args.w.0 c.line_of_word-line.ensures c.args.mark
    (c.in_default-word.ensures ∙ ap (value_in (Some c.in-Some.frame)) c.place_of_word-place.ensures)

pub returns-in_default-word-clause-answer : goal.returns-in_default-word-clause-answer
returns-in_default-word-clause-answer g c =
    sym (look_load-miss (g.Self.Ways.held c.args.self.now) c.find.ensures.in_order c.line_of_word-line.result.0
    (c.in-Some.at, c.in-Some.frame) c.in-Some.ensures.found c.args.w.0 c.line_of_word-line.ensures
    (c.in_default-word.ensures ∙ ap (value_in (Some c.in-Some.frame)) c.place_of_word-place.ensures))

pub put-requires-clause-fits : goal.put-requires-clause-fits
put-requires-clause-fits g c = fits_marked (g.Self.Ways.held c.args.self.now) c.find.ensures.in_order c.line_of_word-line.result.0
    (c.in-Some.at, c.in-Some.frame) c.in-Some.ensures.found _ c.place_of_word-place.result (rw c.place_of_word-place.ensures (omega arith))
    c.mark_read.ensures.marked

pub returns-then-not-mark-clause-maps : goal.returns-then-not-mark-clause-maps
returns-then-not-mark-clause-maps g c = loaded_unmarked c.args.w.0 c.args.mark (maps (g.Self.Ways.held c.args.self.now)) c.if-not-mark.true

pub returns-then-not-mark-clause-answer : goal.returns-then-not-mark-clause-answer
returns-then-not-mark-clause-answer g c =
    sym (look_load-hit (g.Self.Ways.held c.args.self.now) c.find.ensures.in_order c.line_of_word-line.result.0
    (c.in-Some.at, c.in-Some.frame) c.in-Some.ensures.found c.args.w.0 c.line_of_word-line.ensures c.in-Some-word.value
    (c.in-Some-word.ensures ∙ ap (value_in (Some c.in-Some.frame)) c.place_of_word-place.ensures))

pub returns-then-mark_read-clause-maps : goal.returns-then-mark_read-clause-maps
returns-then-mark_read-clause-maps g c =
    loaded_marked (g.Self.Ways.held c.args.self.now) c.find.ensures.in_order c.line_of_word-line.result.0
    (c.in-Some.at, c.in-Some.frame) c.in-Some.ensures.found c.args.w.0 c.line_of_word-line.ensures c.args.mark c.in-Some-word.value
    (c.in-Some-word.ensures ∙ ap (value_in (Some c.in-Some.frame)) c.place_of_word-place.ensures) c.if-not-mark.false _
    (marked_maps (g.Self.Ways.held c.args.self.now) c.find.ensures.in_order c.line_of_word-line.result.0
    (c.in-Some.at, c.in-Some.frame) c.in-Some.ensures.found _ _ c.put.ensures c.args.w.0 c.line_of_word-line.ensures
    (c.mark_read.ensures.marked ∙ ap (λ k. marked_frame k c.in-Some.frame) c.place_of_word-place.ensures))

pub returns-then-mark_read-clause-answer : goal.returns-then-mark_read-clause-answer
returns-then-mark_read-clause-answer g c =
    sym (look_load-hit (g.Self.Ways.held c.args.self.now) c.find.ensures.in_order c.line_of_word-line.result.0
    (c.in-Some.at, c.in-Some.frame) c.in-Some.ensures.found c.args.w.0 c.line_of_word-line.ensures c.in-Some-word.value
    (c.in-Some-word.ensures ∙ ap (value_in (Some c.in-Some.frame)) c.place_of_word-place.ensures))

pub returns-else-mark_read-clause-maps : goal.returns-else-mark_read-clause-maps
returns-else-mark_read-clause-maps g c =
    loaded_same (g.Self.Ways.held c.args.self.now) c.find.ensures.in_order c.line_of_word-line.result.0
    (c.in-Some.at, c.in-Some.frame) c.in-Some.ensures.found c.args.w.0 c.line_of_word-line.ensures c.args.mark c.in-Some-word.value
    (c.in-Some-word.ensures ∙ ap (value_in (Some c.in-Some.frame)) c.place_of_word-place.ensures) c.if-not-mark.false _
    (c.mark_read.ensures.marked ∙ ap (λ k. marked_frame k c.in-Some.frame) c.place_of_word-place.ensures)
    (c.mark_read.ensures.same c.if-mark_read.false)

pub returns-else-mark_read-clause-answer : goal.returns-else-mark_read-clause-answer
returns-else-mark_read-clause-answer g c =
    sym (look_load-hit (g.Self.Ways.held c.args.self.now) c.find.ensures.in_order c.line_of_word-line.result.0
    (c.in-Some.at, c.in-Some.frame) c.in-Some.ensures.found c.args.w.0 c.line_of_word-line.ensures c.in-Some-word.value
    (c.in-Some-word.ensures ∙ ap (value_in (Some c.in-Some.frame)) c.place_of_word-place.ensures))
