-- The tables of messages.
use Rattle.std.specs.Prelude.{ℕ, ◌+◌, List, [], ◌∷◌, codes, length, Some, None}
use Rattle.tcc_msg.specs.declared.msg.Msg.{Msg}
use Rattle.tcc_msg.specs.declared.msg.Msg.TheVariants as msg
use Rattle.machine_links.specs.Lane.{Lane}
use Rattle.checkpoint_text.specs.Tables.{Table, all, each, numbered}
use Rattle.checkpoint_text.specs.Numbers.{flag}

-- its kind, by the order of their list, and its fields
unfoldable pub message_numbers : Msg → List ℕ
message_numbers msg.TidReq = 0 ∷ []
message_numbers (msg.TidGrant t) = 1 ∷ t.0 ∷ []
message_numbers (msg.LoadReq l after) = 2 ∷ l.0 ∷ after.0 ∷ []
message_numbers (msg.Fill l ws) = 3 ∷ l.0 ∷ ws
message_numbers (msg.Skip t) = 4 ∷ t.0 ∷ []
message_numbers (msg.Probe t) = 5 ∷ t.0 ∷ []
message_numbers (msg.ProbeReply t serving) = 6 ∷ t.0 ∷ serving.0 ∷ []
message_numbers (msg.Mark l mask t) = 7 ∷ l.0 ∷ mask.0 ∷ t.0 ∷ []
message_numbers (msg.Commit t count) = 8 ∷ t.0 ∷ count ∷ []
message_numbers (msg.Abort t) = 9 ∷ t.0 ∷ []
message_numbers (msg.WriteBack mask l ws tag) = 10 ∷ l.0 ∷ mask.0 ∷ tag.0 ∷ ws
message_numbers (msg.Flush mask l ws tag) = 11 ∷ l.0 ∷ mask.0 ∷ tag.0 ∷ ws
message_numbers (msg.DataReq l) = 12 ∷ l.0 ∷ []
message_numbers (msg.Inv l mask t) = 13 ∷ l.0 ∷ mask.0 ∷ t.0 ∷ []
message_numbers (msg.InvAck l keeps) = 14 ∷ l.0 ∷ flag keeps ∷ []

-- those in flight on a link from this number on, each behind its number
unfoldable pub flying_rows : (seq : ℕ) → Lane → List (List ℕ)
flying_rows seq [] = []
flying_rows seq (None ∷ lane) = flying_rows (seq + 1) lane
flying_rows seq (Some h ∷ lane) = (seq ∷ message_numbers h.msg) ∷ flying_rows (seq + 1) lane

-- of all pairs of nodes by their places: how many messages were sent, and those in flight
unfoldable pub message_tables : List Lane → List Table
message_tables lanes =
    record { word = codes "sent"; rows = numbered (each (λ (l : Lane). length l ∷ [])) 0 lanes }
    ∷ record { word = codes "message"; rows = numbered (all (flying_rows 0) (λ row. row)) 0 lanes }
    ∷ []
