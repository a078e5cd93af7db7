-- The kind's numbers are changed in their place.
use Rattle.watch.specs.Plain.{fact_of}
use Rattle.watch_count.specs.Messages.{kind_of, no_messages, messages_after}
use Rattle.watch_count.proofs.Lists.{set-changed_if}
use Rattle.watch_count.proofs.counts.count_message.Goals as goal
use Rattle.std.proofs.Common.{rules}

pub returns-then-place-lt15 : goal.returns-then-place-lt15
returns-then-place-lt15 c =
    set-changed_if (messages_after (fact_of c.args.fact.now)) c.in-Some.place (kind_of (fact_of c.args.fact.now)) c.args.messages.now
    c.count.new.self no_messages c.in-Some.ensures (search rules) c.count.ensures
