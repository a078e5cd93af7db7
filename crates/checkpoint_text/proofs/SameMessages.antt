-- Equal tables of messages are of equal links.
use Rattle.std.proofs.Common.{◌≡◌, ℕ, zero, suc, ◌+◌, ◌==◌, cond, List, [], ◌∷◌, map, get_or, drop, length}
use Rattle.std.proofs.Common.{Option, Some, None, option_map, slice_get, slice_index_or, unwrap_or, refl, sym, ap, ◌∙◌}
use Rattle.std.proofs.lemmas.List.{ext_get_or, length-map}
use Rattle.std.proofs.lemmas.Option.{unwrap_or-slice_get}
use Rattle.tcc_msg.specs.declared.msg.Msg.{Msg}
use Rattle.tcc_msg.specs.declared.msg.Msg.TheVariants as msg
use Rattle.tcc_msg.specs.Plain.{msg_of}
use Rattle.rules_maps.specs.Nodes.{Node}
use Rattle.machine_links.specs.Flights.{Flights, lane, lane_at, net_of}
use Rattle.machine_links.specs.Lane.{Lane, message}
use Rattle.machine_links.specs.Places.{place}
use Rattle.machine_links.specs.declared.lane.Held.{Held}
use Rattle.checkpoint_text.specs.Messages.{flying_rows, message_numbers}
use Rattle.checkpoint_text.specs.Tables.{all, each, numbered}
use Rattle.checkpoint_text.proofs.Numbers.{flag-back, flag_from, made-same, rows-same as listed-same}
use Rattle.checkpoint_text.proofs.Picked.{all-same, each-same, filled-same, filled_row, items_of}

-- the message of a kind with these numbers
abbrev message_of : (kind : ℕ) → (ns : List ℕ) → Msg
message_of kind ns =
    let first = get_or ns 0 0 in
    let second = get_or ns 1 0 in
    let third = get_or ns 2 0 in
    cond (kind == 0) msg.TidReq (
    cond (kind == 1) (msg.TidGrant (record { 0 = first })) (
    cond (kind == 2) (msg.LoadReq (record { 0 = first }) (record { 0 = second })) (
    cond (kind == 3) (msg.Fill (record { 0 = first }) (drop 1 ns)) (
    cond (kind == 4) (msg.Skip (record { 0 = first })) (
    cond (kind == 5) (msg.Probe (record { 0 = first })) (
    cond (kind == 6) (msg.ProbeReply (record { 0 = first }) (record { 0 = second })) (
    cond (kind == 7) (msg.Mark (record { 0 = first }) (record { 0 = second }) (record { 0 = third })) (
    cond (kind == 8) (msg.Commit (record { 0 = first }) second) (
    cond (kind == 9) (msg.Abort (record { 0 = first })) (
    cond (kind == 10) (msg.WriteBack (record { 0 = second }) (record { 0 = first }) (drop 3 ns) (record { 0 = third })) (
    cond (kind == 11) (msg.Flush (record { 0 = second }) (record { 0 = first }) (drop 3 ns) (record { 0 = third })) (
    cond (kind == 12) (msg.DataReq (record { 0 = first })) (
    cond (kind == 13) (msg.Inv (record { 0 = first }) (record { 0 = second }) (record { 0 = third }))
    (msg.InvAck (record { 0 = first }) (flag_from second)))))))))))))))

abbrev message_from : List ℕ → Msg
message_from ns = message_of (get_or ns 0 0) (drop 1 ns)

message-back : (m : Msg) → message_from (message_numbers m) ≡ m
unfolding message_numbers
message-back msg.TidReq = refl
message-back (msg.TidGrant t) = refl
message-back (msg.LoadReq l after) = refl
message-back (msg.Fill l ws) = refl
message-back (msg.Skip t) = refl
message-back (msg.Probe t) = refl
message-back (msg.ProbeReply t serving) = refl
message-back (msg.Mark l mask t) = refl
message-back (msg.Commit t count) = refl
message-back (msg.Abort t) = refl
message-back (msg.WriteBack mask l ws tag) = refl
message-back (msg.Flush mask l ws tag) = refl
message-back (msg.DataReq l) = refl
message-back (msg.Inv l mask t) = refl
message-back (msg.InvAck l keeps) = ap (msg.InvAck l) (flag-back keeps)

-- the messages of a link, behind their numbers
flying-filled : (k : ℕ) (lane : Lane) → flying_rows k lane ≡ numbered (filled_row (λ (h : Held). message_numbers h.msg)) k lane
unfolding flying_rows numbered
flying-filled k [] = refl
flying-filled k (None ∷ lane) = flying-filled (k + 1) lane
flying-filled k (Some h ∷ lane) = ap (λ rows. (k ∷ message_numbers h.msg) ∷ rows) (flying-filled (k + 1) lane)

-- links with the same messages in flight
held-same : (x y : Option Held) → option_map (λ (h : Held). message_numbers h.msg) x ≡ option_map (λ (h : Held). message_numbers h.msg) y
    → message x ≡ message y
unfolding message
held-same None None e = refl
held-same None (Some y) e = absurd (cc)
held-same (Some x) None e = absurd (cc)
held-same (Some x) (Some y) e =
    let numbers : message_numbers x.msg ≡ message_numbers y.msg = cc in
    ap (λ (m : Msg). Some (msg_of m)) (made-same message_numbers message_from message-back x.msg y.msg numbers)

message-at : (lane : Lane) (i : ℕ) → get_or (map message lane) i None ≡ message (get_or lane i None)
unfolding message
message-at [] i = refl
message-at (h ∷ lane) zero = refl
message-at (h ∷ lane) (suc i) = message-at lane i

lane-same : (x y : Lane) → length x ≡ length y → flying_rows 0 x ≡ flying_rows 0 y → map message x ≡ map message y
lane-same x y long rows =
    let filled = sym (flying-filled 0 x) ∙ rows ∙ flying-filled 0 y in
    ext_get_or None (map message x) (map message y) (length-map x message ∙ long ∙ sym (length-map y message))
    (λ i lt. message-at x i ∙ held-same (get_or x i None) (get_or y i None) (filled-same (λ (h : Held). message_numbers h.msg) x y filled i)
    ∙ sym (message-at y i))

abbrev pub sent_numbers : Lane → List ℕ
sent_numbers lane = length lane ∷ []

-- each pair of nodes has the same messages
pub lanes-same : (xs ys : List Lane) → numbered (each sent_numbers) 0 xs ≡ numbered (each sent_numbers) 0 ys
    → numbered (all (flying_rows 0) (λ row. row)) 0 xs ≡ numbered (all (flying_rows 0) (λ row. row)) 0 ys
    → (i : ℕ) → map message (slice_index_or xs i []) ≡ map message (slice_index_or ys i [])
lanes-same xs ys sent flying i =
    ap (map message) (sym (unwrap_or-slice_get xs i []))
    ∙ go (slice_get xs i) (slice_get ys i) (each-same sent_numbers xs ys sent i) (all-same (flying_rows 0) (λ row. row) xs ys flying i)
    ∙ ap (map message) (unwrap_or-slice_get ys i [])
  where
    go : (x y : Option Lane) → option_map sent_numbers x ≡ option_map sent_numbers y
        → items_of (λ lane. map (λ (row : List ℕ). row) (flying_rows 0 lane)) x
        ≡ items_of (λ lane. map (λ (row : List ℕ). row) (flying_rows 0 lane)) y
        → map message (unwrap_or x []) ≡ map message (unwrap_or y [])
    go None None long rows = refl
    go None (Some y) long rows = absurd (cc)
    go (Some x) None long rows = absurd (cc)
    go (Some x) (Some y) long rows =
        let count : length x ≡ length y = cc in
        lane-same x y count (listed-same (flying_rows 0 x) (flying_rows 0 y) rows)

-- the links of the rules
pub net-same : (f g : Flights) → f.cores ≡ g.cores → f.dirs ≡ g.dirs
    → ((i : ℕ) → map message (slice_index_or f.lanes i []) ≡ map message (slice_index_or g.lanes i []))
    → (src dst : Node) → net_of f src dst ≡ net_of g src dst
unfolding net_of lane
net-same f g cores dirs lanes src dst =
    ap (λ (i : Option ℕ). map message (lane_at f.lanes i)) (λ k. place (cores k) (dirs k) src dst) ∙ go (place g.cores g.dirs src dst)
  where
    go : (i : Option ℕ) → map message (lane_at f.lanes i) ≡ map message (lane_at g.lanes i)
    go None = refl
    go (Some i) = lanes i
