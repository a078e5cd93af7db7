use Rattle.std.proofs.Common.{◌∙◌, sym, ap, Some}
use Rattle.spec_cache.proofs.Consistent.{IsCache-maps}
use Rattle.spec_cache.specs.Frame.{value_in}
use Rattle.spec_cache.proofs.Looks.{look_load-absent, look_load-hit, look_load-miss}
use Rattle.spec_cache.proofs.frames.Frames.look_load.Goals as goal

pub returns-in-None-clause-answer : goal.returns-in-None-clause-answer
returns-in-None-clause-answer g c =
    c.room_for.ensures ∙ sym
    (look_load-absent (g.Self.Ways.held c.args.self.now) c.line_of_word-line.result.0 c.in-None.ensures.found c.args.w.0
    c.line_of_word-line.ensures)

pub returns-in-None-clause-consistent : goal.returns-in-None-clause-consistent
returns-in-None-clause-consistent g c = IsCache-maps (g.Self.Ways.held c.args.self.now) c.find.ensures.in_order

pub returns-in-None-word-clause-answer : goal.returns-in-None-word-clause-answer
returns-in-None-word-clause-answer g c =
    sym (look_load-miss (g.Self.Ways.held c.args.self.now) c.find.ensures.in_order c.line_of_word-line.result.0
    (c.in-Some.field-0-0, c.in-Some.frame) c.in-Some.ensures.found c.args.w.0 c.line_of_word-line.ensures
    (c.in-None-word.ensures ∙ ap (value_in (Some c.in-Some.frame)) c.place_of_word.ensures))

pub returns-in-None-word-clause-consistent : goal.returns-in-None-word-clause-consistent
returns-in-None-word-clause-consistent g c = IsCache-maps (g.Self.Ways.held c.args.self.now) c.find.ensures.in_order

pub returns-in-Some-word-clause-answer : goal.returns-in-Some-word-clause-answer
returns-in-Some-word-clause-answer g c =
    sym (look_load-hit (g.Self.Ways.held c.args.self.now) c.find.ensures.in_order c.line_of_word-line.result.0
    (c.in-Some.field-0-0, c.in-Some.frame) c.in-Some.ensures.found c.args.w.0 c.line_of_word-line.ensures c.in-Some-word.value
    (c.in-Some-word.ensures ∙ ap (value_in (Some c.in-Some.frame)) c.place_of_word.ensures))

pub returns-in-Some-word-clause-consistent : goal.returns-in-Some-word-clause-consistent
returns-in-Some-word-clause-consistent g c = IsCache-maps (g.Self.Ways.held c.args.self.now) c.find.ensures.in_order
