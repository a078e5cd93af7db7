use Rattle.std.proofs.Common.{◌∙◌, sym}
use Rattle.spec_cache.proofs.Looks.{look_store-absent, look_store-hit, look_store-part}
use Rattle.spec_cache.proofs.frames.Frames.look_store.Goals as goal

pub returns-then-not-whole : goal.returns-then-not-whole
returns-then-not-whole g c = c.look_load.ensures.answer
    ∙ (rw c.if-not-whole.true (sym (look_store-part (g.Self.Ways.held c.args.self.now) c.args.w.0)))

pub returns-in-None : goal.returns-in-None
returns-in-None g c =
    c.room_for.ensures ∙ (rw c.if-not-whole.false
    (sym (look_store-absent (g.Self.Ways.held c.args.self.now) c.line_of_word-line.result.0 c.in-None.ensures.found c.args.w.0
    c.line_of_word-line.ensures)))

pub returns-in-Some : goal.returns-in-Some
returns-in-Some g c =
    rw c.if-not-whole.false (sym
    (look_store-hit (g.Self.Ways.held c.args.self.now) c.find.ensures.in_order c.line_of_word-line.result.0 c.in-Some.field-0
    c.in-Some.ensures.found c.args.w.0 c.line_of_word-line.ensures))
