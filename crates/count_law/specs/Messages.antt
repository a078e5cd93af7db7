-- How the counts of messages add up.
use Rattle.std.specs.Prelude.{ℕ, ◌+◌, ◌<◌, ◌≡◌, ◌==◌, Bool, false, List, Option, Some, None, get_or, count_by, sum_by}
use Rattle.image_load.specs.Start.{Start}
use Rattle.rules_riscv.specs.Starting.{AfterRun}
use Rattle.rules_maps.specs.Nodes.{Event, Msg, Node}
use Rattle.rules_maps.specs.Shape.{Shape}
use Rattle.rules_tcc.specs.State.{Link}
use Rattle.rules_tcc.specs.Useful.{nodes}
use Rattle.watch_count.specs.Messages.{kind_place, no_messages}
use Rattle.watch_count.specs.declared.messages.MessageCounts.{MessageCounts}
use Rattle.watch_run.specs.Looked.{counts_of_run}

-- the row of a kind of message in the counts of this run
abbrev pub messages_of : Start → List Event → (kind : ℕ) → MessageCounts
messages_of s es k = get_or (counts_of_run s es).messages k no_messages

-- a place on a link has a message of this kind in flight: not where it was consumed
abbrev pub is_of_kind : (kind : ℕ) → Option Msg → Bool
is_of_kind k None = false
is_of_kind k (Some m) = kind_place m == k

-- how many messages of this kind are in flight on a link
unfoldable pub flying_on : (kind : ℕ) → Link → ℕ
flying_on k l = count_by (is_of_kind k) l

-- and how many on all links, from each node to each
unfoldable pub flying : Shape → (kind : ℕ) → (Node → Node → Link) → ℕ
flying sh k net = sum_by (λ src. sum_by (λ dst. flying_on k (net src dst)) (nodes sh)) (nodes sh)

-- each message that was sent was taken, was dropped, or is in flight; one that only made a directory ask stays in flight
abbrev pub SentAddUp : MessageCounts → (in_flight : ℕ) → Type 0
SentAddUp m n = m.sent ≡ m.took + m.dropped + n

-- so it is of each of the fifteen kinds, after each run of the rules from a program's start
abbrev pub MessagesAddUp : Type 0
MessagesAddUp =
    (s : Start) (es : List Event)
    → AfterRun s es (λ h. (k : ℕ) → k < 15 → SentAddUp (messages_of s es k) (flying s.settings k h.world.net))
