-- The frames of one way, or of two.
use Rattle.std.proofs.Common.{ap, sym, ◌∙◌}
use Rattle.watch_state.specs.Plain.{frame_of, record_of}
use Rattle.watch_state.specs.Records as plain
use Rattle.watch_changes.specs.Same.{same}
use Rattle.watch_changes.proofs.Coded.{holds-alike}
use Rattle.watch_changes.proofs.same.is_holds.Goals as goal

pub returns-then-is_way : goal.returns-then-is_way
returns-then-is_way c =
    let holds = plain.Holds c.args.core.0 c.args.set c.args.way (frame_of c.args.frame.now) in
    c.is_frame.ensures
    ∙ holds-alike c.args.core.0 c.args.set c.args.way c.in-Holds.x.0 c.in-Holds.s c.in-Holds.w (frame_of c.args.frame.now)
    (frame_of c.in-Holds.f) (sym c.is_way.ensures ∙ c.if-is_way.true)
    ∙ ap (λ r. same holds (record_of r)) (sym c.in-Holds.is)
