-- What a member's part does, as an event of its node.
use Rattle.std.proofs.Common.{◌<◌, subst, sym}
use Rattle.tcc_msg.specs.Plain.{event_of}
use Rattle.apart_member.specs.Placed.{IsPlaced}
use Rattle.apart_member.proofs.Events.{from-there}
use Rattle.apart_member.proofs.kind.MemberKind.act_part.Goals as goal

pub hand_to-requires-clause-core : goal.hand_to-requires-clause-core
hand_to-requires-clause-core c =
    let s = c.args.code.now.settings in
    let placed = subst (IsPlaced s) c.in-Directory.is c.requires.placed in
    subst (λ p. c.sent_by-msg.result.0.0 < p.shape.cores) (sym placed)
    (from-there s (event_of c.args.event) c.sent_by-msg.result.0.0 c.sent_by-msg.ensures.core c.requires.may.names)
