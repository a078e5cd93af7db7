use Rattle.std.proofs.Common.{◌∙◌, ◌∷◌, ◌++◌, [], sym, ap}
use Rattle.std.proofs.lemmas.List.{map-append}
use Rattle.image_load.specs.Overlap.{extents_laid}
use Rattle.image_load.proofs.FirstFaults.{segment_fault-outside, segment_fault-overlap, segment_fault-none}
use Rattle.image_load.proofs.layout.Layout.lay_segment.Goals as goal

pub returns-then-not-has_room_for-clause-fault : goal.returns-then-not-has_room_for-clause-fault
returns-then-not-has_room_for-clause-fault c = λ _ earlier laid.
    segment_fault-outside c.args.self.now.config c.args.image earlier c.args.segment.now
    (sym c.has_room_for.ensures ∙ c.if-not-has_room_for.true)

pub returns-in-Some-clause-fault : goal.returns-in-Some-clause-fault
returns-in-Some-clause-fault c = λ _ earlier laid.
    segment_fault-overlap c.args.self.now.config c.args.image earlier c.args.segment.now c.in-Some.other
    (sym c.has_room_for.ensures ∙ c.if-not-has_room_for.false) (sym (c.earliest_sharing.ensures earlier laid) ∙ c.in-Some.is)

pub returns-clause-passed : goal.returns-clause-passed
returns-clause-passed c = λ earlier laid.
    segment_fault-none c.args.self.now.config c.args.image earlier c.args.segment.now
    (sym c.has_room_for.ensures ∙ c.if-not-has_room_for.false) (sym (c.earliest_sharing.ensures earlier laid) ∙ c.in_default.is)

pub returns-clause-laid : goal.returns-clause-laid
returns-clause-laid c = λ earlier before.
    let none = sym (c.earliest_sharing.ensures earlier before) ∙ c.in_default.is in
    let filled = c.fill.ensures.filled c.args.image earlier before.filled none in
    let extents = c.fill.ensures.extents
    ∙ c.in_ok-push.ensures.items
    ∙ ap (λ xs. xs ++ c.of.result ∷ []) before.extents
    ∙ ap (λ extent. extents_laid earlier ++ extent ∷ []) c.of.ensures in
    record { filled = rw map-append filled; extents = rw map-append extents }
