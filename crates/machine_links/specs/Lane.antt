-- A link with marks: what was sent on it in order, each None once it is consumed, with whether it may be delivered.
use Rattle.std.specs.Prelude.{ℕ, Bool, true, false, List, length, slice_index_or, Option, Some, None}
use Rattle.rules_maps.specs.Words.{those}
use Rattle.rules_maps.specs.Nodes.{Msg}
use Rattle.tcc_msg.specs.Plain.{msg_of}
use Rattle.machine_links.specs.declared.lane.Held.{Held}

abbrev pub Lane : Type 0
Lane = List (Option Held)

-- the message, where it isn't consumed
unfoldable pub message : Option Held → Option Msg
message None = None
message (Some h) = Some (msg_of h.msg)

-- it is in flight and may be delivered
unfoldable pub is_marked : Option Held → Bool
is_marked None = false
is_marked (Some h) = h.ready

-- it is in flight
unfoldable pub is_waiting : Option Held → Bool
is_waiting None = false
is_waiting (Some h) = true

-- the numbers, rising, of what has p
unfoldable pub numbers_of : (Option Held → Bool) → Lane → List ℕ
numbers_of p l = those (λ k. p (slice_index_or l k None)) (length l)

-- the message with that mark
unfoldable pub marked_as : Bool → Option Held → Option Held
marked_as b None = None
marked_as b (Some h) = Some (record h { ready = b })
