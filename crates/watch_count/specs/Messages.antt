-- What is counted of one kind of message.
use Rattle.std.specs.Prelude.{ℕ, ◌+◌, Option, Some, None}
use Rattle.rules_maps.specs.Nodes.{Msg, TidReq, TidGrant, LoadReq, Fill, Skip, Probe, ProbeReply, Mark, Commit, Abort, WriteBack, Flush}
use Rattle.rules_maps.specs.Nodes.{DataReq, Inv, InvAck}
use Rattle.watch.specs.Facts.{Fact, Took, Dropped, AskedOwner, Sent}
use Rattle.watch_count.specs.declared.messages.MessageCounts.{MessageCounts}

-- the place of a message's kind among the fifteen
abbrev pub kind_place : Msg → ℕ
kind_place TidReq = 0
kind_place (TidGrant t) = 1
kind_place (LoadReq l after) = 2
kind_place (Fill l ws) = 3
kind_place (Skip t) = 4
kind_place (Probe t) = 5
kind_place (ProbeReply t serving) = 6
kind_place (Mark l m t) = 7
kind_place (Commit t n) = 8
kind_place (Abort t) = 9
kind_place (WriteBack l m ws t) = 10
kind_place (Flush l m ws t) = 11
kind_place (DataReq l) = 12
kind_place (Inv l m t) = 13
kind_place (InvAck l keeps) = 14

abbrev pub no_messages : MessageCounts
no_messages = record { sent = 0; took = 0; dropped = 0; asked = 0 }

-- the kind of message that a fact is about
abbrev pub kind_of : Fact → Option ℕ
kind_of (Took m) = Some (kind_place m)
kind_of (Dropped m) = Some (kind_place m)
kind_of (AskedOwner m) = Some (kind_place m)
kind_of (Sent src dst k m) = Some (kind_place m)
kind_of _ = None

-- one more was sent
abbrev pub one_sent : MessageCounts → MessageCounts
one_sent c = record c { sent = c.sent + 1 }

-- a fact about a message of this kind; one that only asked stays in flight
unfoldable pub messages_after : Fact → MessageCounts → MessageCounts
messages_after (Took m) c = record c { took = c.took + 1 }
messages_after (Dropped m) c = record c { dropped = c.dropped + 1 }
messages_after (AskedOwner m) c = record c { asked = c.asked + 1 }
messages_after (Sent src dst k m) c = one_sent c
messages_after _ c = c
