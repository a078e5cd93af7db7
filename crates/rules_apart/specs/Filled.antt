-- The entries of a log as the rules have them: each with the message that it handled, which is the one that its source sent under
-- that name.
use Rattle.std.specs.Prelude.{ℕ, List, [], map, Option, Some, None, slice_get}
use Rattle.rules_maps.specs.Nodes.{Node, Event, Deliver}
use Rattle.tcc_msg.specs.Plain.{msg_of, event_of}
use Rattle.rules_tcc.specs.Local.{Entry, Mail}
use Rattle.rules_apart.specs.declared.logs.Logged.{Logged}
use Rattle.rules_apart.specs.declared.logs.Mail.{Mail as CodeMail}

abbrev pub mail_of : CodeMail → Mail
mail_of m = record { msg = msg_of m.msg; stamp = m.stamp }

-- the message that an event handles, of those that each source has sent to its node, numbered from 0
abbrev pub handled : (from : Node → List Mail) → Event → Option Mail
handled from (Deliver src dst k) = slice_get (from src) k
handled from _ = None

abbrev pub entry_of : (stamp : ℕ) → Event → Option Mail → Entry
entry_of t e None = record { stamp = t; event = e; msg = None; msg_stamp = 0 }
entry_of t e (Some m) = record { stamp = t; event = e; msg = Some m.msg; msg_stamp = m.stamp }

-- an entry with the message that it handled
unfoldable pub filled : (from : Node → List Mail) → Logged → Entry
filled from l = entry_of l.stamp (event_of l.event) (handled from (event_of l.event))

-- an entry by itself
unfoldable pub bare : Logged → Entry
bare l = entry_of l.stamp (event_of l.event) None
