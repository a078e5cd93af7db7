-- The kind's number is changed in its place.
use Rattle.std.proofs.Common.{Some, ap, refl, rules}
use Rattle.tcc_msg.specs.Plain.{msg_of}
use Rattle.watch_count.specs.Messages.{kind_place, no_messages, one_sent}
use Rattle.watch_count.proofs.Lists.{set-changed_if}
use Rattle.watch_count.proofs.counts.count_sent.Goals as goal

pub returns-then-place-lt15 : goal.returns-then-place-lt15
returns-then-place-lt15 c =
    set-changed_if one_sent c.kind_place-place.result (Some (kind_place (msg_of c.args.msg.now))) c.args.messages.now _ no_messages
    (ap Some c.kind_place-place.ensures) (search rules) refl
