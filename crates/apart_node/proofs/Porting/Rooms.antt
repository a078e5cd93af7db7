-- A room whose first message goes onto its link, whose links bring messages, and whose pools lose one.
use Rattle.std.proofs.Common.{◌≡◌, ℕ, ◌<◌, ◌+◌, Bool, true, false, List, ◌∷◌, ◌++◌, length, map, drop, get_or, length-drop}
use Rattle.std.proofs.Common.{append_assoc, Option, Some, None, refl, ap, sym, ◌∙◌, inl, inr, arith}
use Rattle.std.specs.Prelude.{slice_get, slice_set, option_and_then}
use Rattle.std.proofs.lemmas.Bool.{cases_eq}
use Rattle.std.proofs.lemmas.List.{drop_more, map-append, set-get_or}
use Rattle.std.proofs.lemmas.List.Elements.{All-head, All-tail}
use Rattle.std.proofs.lemmas.Option.{get_or_from_slice_get, same_Some, slice_get_within}
use Rattle.tcc_base.specs.declared.names.NodeId.{NodeId}
use Rattle.base_lemmas.proofs.Lemmas.{get-set, get-set_other, node_eq-refl}
use Rattle.rules_maps.specs.Bridge.{node_of}
use Rattle.rules_maps.specs.Nodes.{Node, Deliver, node_eq}
use Rattle.tcc_msg.specs.Plain.{msg_of, sends_of}
use Rattle.tcc_msg.specs.declared.msg.Msg.{Msg}
use Rattle.rules_tcc.specs.Local as rules
use Rattle.rules_tcc.specs.Local.{mailed}
use Rattle.rules_tcc.proofs.Lemmas.{node_eq-eq}
use Rattle.rules_apart.specs.Carried.{IsCarried}
use Rattle.rules_apart.specs.Filled.{mail_of}
use Rattle.rules_apart.specs.declared.logs.Mail.{Mail}
use Rattle.apart_node.specs.Acts.{Loses}
use Rattle.apart_node.specs.Deeds.{IsLetter, IsWaiting}
use Rattle.apart_node.specs.Linked.{IsLinkedTo}
use Rattle.apart_node.specs.Moves.{AtEach, Both, Grows, Room, SameLinks, Stands, Takes}
use Rattle.apart_node.specs.Peers.{seat}
use Rattle.apart_node.specs.Ports.{AreCarried, IsPortAt, IsRoom, PortData, RoomData, all_but, got_at, handed_to, port_to, sent_at}
use Rattle.apart_node.specs.Ports.{taken_from}
use Rattle.apart_node.specs.declared.port.Letter.{Letter}
use Rattle.apart_node.specs.declared.room.Waiting.{Waiting}
use Rattle.apart_node.proofs.Porting.SeveralMoves.{both-refl, links-refl, room-places, stands-refl}
use Rattle.apart_node.proofs.Porting.ChangedElement.{each-set, each-weaker, ports-keep}
use Rattle.apart_node.proofs.Porting.Posted.{posted, with_sent}
use Rattle.apart_node.proofs.Porting.Seats.{seat-below, seat-same}

pub first-carried : (r : RoomData) (d : NodeId) (m : Msg) (rest : List (NodeId × Msg)) → r.unsent ≡ (d, m) ∷ rest → IsRoom r
    → IsCarried r.settings (node_of r.own) (node_of d) (msg_of m)
first-carried r d m rest e h =
    let a : AreCarried r.settings (node_of r.own) ((d, m) ∷ rest) = rw e at h.unsent in
    All-head (λ x. IsCarried r.settings (node_of r.own) (node_of x.0) (msg_of x.1)) (d, m) rest a

pub seat-within : (r : RoomData) (n : Node) (k : ℕ) → IsRoom r → seat r.settings (node_of r.own) n ≡ Some k → k < length r.ports
seat-within r n k h e = rw h.ports.count (seat-below r.settings (node_of r.own) n k e)

-- the link there carries what is carried to that node
pub outlet-carries : (r : RoomData) (n : Node) (k : ℕ) (p : PortData) (m : Msg) → IsRoom r → seat r.settings (node_of r.own) n ≡ Some k
    → slice_get r.ports k ≡ Some p → IsCarried r.settings (node_of r.own) n (msg_of m)
    → IsCarried p.outlet.ends.settings (node_of p.outlet.ends.src) (node_of p.outlet.ends.dst) (msg_of m)
outlet-carries r n k p m h e g c =
    let a : IsPortAt r.settings (node_of r.own) k p = h.ports.each k p g in
    let d : node_of p.outlet.ends.dst ≡ n = seat-same r.settings (node_of r.own) (node_of p.outlet.ends.dst) n k a.place e in
    rw (a.out_settings, a.out_own, d) c

sent-stands : (p : PortData) (m : Mail) → Stands p (with_sent p m)
sent-stands p m = record { links = record { out_link = refl; out_ends = refl; in_link = refl; in_ends = refl }; got = refl; pool = refl }

posted-stands : (r : RoomData) (k : ℕ) (p : PortData) (m : Mail) → slice_get r.ports k ≡ Some p → k < length r.ports
    → AtEach Stands r.ports (slice_set r.ports k (with_sent p m))
posted-stands r k p m e l = each-set Stands r.ports k p (with_sent p m) e (sent-stands p m) stands-refl l

pub posted-room : (r : RoomData) (k : ℕ) (p : PortData) (m : Mail) (rest : List (NodeId × Msg)) → slice_get r.ports k ≡ Some p
    → k < length r.ports
    → Room (λ peer. Stands) r (posted r k p m rest)
posted-room r k p m rest e l = room-places Stands r (posted r k p m rest) refl refl (posted-stands r k p m e l)

pub posted-whole : (r : RoomData) (k : ℕ) (p : PortData) (m : Mail) (d : NodeId) (x : Msg) (rest : List (NodeId × Msg)) → IsRoom r
    → r.unsent ≡ (d, x) ∷ rest → slice_get r.ports k ≡ Some p → k < length r.ports → IsRoom (posted r k p m rest)
posted-whole r k p m d x rest h f e l = record {
  allowed = h.allowed;
  ports = ports-keep r.settings (node_of r.own) r.ports (slice_set r.ports k (with_sent p m))
      (each-weaker Stands SameLinks r.ports (slice_set r.ports k (with_sent p m)) (λ a b s. s.links) (posted-stands r k p m e l)) h.ports;
  unsent = let a : AreCarried r.settings (node_of r.own) ((d, x) ∷ rest) = rw f at h.unsent in
      All-tail (λ y. IsCarried r.settings (node_of r.own) (node_of y.0) (msg_of y.1)) (d, x) rest a;
}

-- ---- what arrives

sent-takes : (a b : Option PortData) → Both Takes a b → sent_at b ≡ sent_at a
sent-takes None None h = refl
sent-takes None (Some q) h = absurd h
sent-takes (Some p) None h = absurd h
sent-takes (Some p) (Some q) h = ap (λ o. map mail_of o.sent) h.outlet

module _ (r : RoomData) (ports : List PortData) (t : AtEach Takes r.ports ports) where
  abbrev pub gathered : RoomData
  gathered = record r { ports = ports }

  pub gathered-room : Room (λ peer. Grows) r (record r { ports = ports })
  gathered-room = room-places Grows r (record r { ports = ports }) refl refl (each-weaker Takes Grows r.ports ports (λ p q h. h.grows) t)

  pub gathered-whole : IsRoom r → IsRoom (record r { ports = ports })
  gathered-whole h = record {
    allowed = h.allowed;
    ports = ports-keep r.settings (node_of r.own) r.ports ports (each-weaker Takes SameLinks r.ports ports (λ p q g. g.grows.links) t)
        h.ports;
    unsent = h.unsent;
  }

  pub gathered-sent : (stamp : ℕ) (dst : Node) → handed_to (record r { ports = ports }) stamp dst ≡ handed_to r stamp dst
  gathered-sent stamp dst =
      ap (λ l. l ++ mailed stamp (sends_of r.unsent dst)) (sent-takes (port_to r dst) (port_to (record r { ports = ports }) dst)
      ((room-places Takes r (record r { ports = ports }) refl refl t).ports dst))

-- ---- the ports as they are read

pub port-here : (r : RoomData) (k : ℕ) (p : PortData) → IsRoom r → slice_get r.ports k ≡ Some p → IsPortAt r.settings (node_of r.own) k p
port-here r k p h e = h.ports.each k p e

-- ---- a message is taken out of a pool

pub loses-one : (r : RoomData) (w : Waiting) (h : IsWaiting r w)
    → (n : Node) (o : Option ℕ) → seat r.settings (node_of r.own) n ≡ o
    → Both (Loses true (Deliver (node_of w.src) (node_of r.own) w.letter.number) n) (option_and_then (slice_get r.ports) o)
    (option_and_then (slice_get (slice_set r.ports w.seat (record h.port { pool = all_but w.letter.number h.port.pool }))) o)
loses-one r w h n None q = tt
loses-one r w h n (Some j) q = elim (cases_eq j w.seat) [
  | inl e ↦ (let same : n ≡ node_of w.src = seat-same r.settings (node_of r.own) n (node_of w.src) w.seat (q ∙ ap (λ x. Some x) e)
      h.place in
      let t : node_eq (node_of w.src) n ≡ true = rw same (node_eq-refl (node_of w.src)) in
      rw (
        e,
        h.at,
        get-set r.ports w.seat (record h.port { pool = all_but w.letter.number h.port.pool })
            (slice_get_within r.ports w.seat h.port h.at),
      )
      (record {
        links = record { out_link = refl; out_ends = refl; in_link = refl; in_ends = refl };
        got = refl;
        pool = rw t refl;
      }))
  | inr m ↦ (let apart : node_eq (node_of w.src) n ≡ false = not-same (node_eq (node_of w.src) n) refl m in
      rw (get-set_other r.ports w.seat j (record h.port { pool = all_but w.letter.number h.port.pool }) m)
      (both-refl (Loses true (Deliver (node_of w.src) (node_of r.own) w.letter.number) n) (slice_get r.ports j)
      (λ p. record { links = links-refl p; got = refl; pool = rw apart refl })))
]
  where
    not-same : (b : Bool) → node_eq (node_of w.src) n ≡ b → (j ≡ w.seat → ⊥) → node_eq (node_of w.src) n ≡ false
    not-same false e m = e
    not-same true e m =
        absurd (let s : node_of w.src ≡ n = node_eq-eq (node_of w.src) n e in
        let x : Some j ≡ Some w.seat = sym q ∙ (ap (seat r.settings (node_of r.own)) (sym s) ∙ h.place) in
        m (same_Some j w.seat x))

abbrev pub without_letter : (r : RoomData) → (w : Waiting) → PortData → RoomData
without_letter r w p = record r { ports = slice_set r.ports w.seat (record p { pool = all_but w.letter.number p.pool }) }

-- the outlet stays
record Drops (p q : PortData) : Type 0 where
  outlet : q.outlet ≡ p.outlet
  inlet : q.inlet ≡ p.inlet

drops-links : (p q : PortData) → Drops p q → SameLinks p q
drops-links p q d = record {
  out_link = ap (λ o. o.link) d.outlet;
  out_ends = ap (λ o. o.ends) d.outlet;
  in_link = ap (λ o. o.link) d.inlet;
  in_ends = ap (λ o. o.ends) d.inlet;
}

dropped-each : (r : RoomData) (w : Waiting) (h : IsWaiting r w) → AtEach Drops r.ports (without_letter r w h.port).ports
dropped-each r w h =
    each-set Drops r.ports w.seat h.port (record h.port { pool = all_but w.letter.number h.port.pool }) h.at
    (record { outlet = refl; inlet = refl })
    (λ p. record { outlet = refl; inlet = refl }) (slice_get_within r.ports w.seat h.port h.at)

sent-drops : (a b : Option PortData) → Both Drops a b → sent_at b ≡ sent_at a
sent-drops None None h = refl
sent-drops None (Some q) h = absurd h
sent-drops (Some p) None h = absurd h
sent-drops (Some p) (Some q) h = ap (λ o. map mail_of o.sent) h.outlet

pub dropped-room : (r : RoomData) (w : Waiting) (h : IsWaiting r w)
    → Room (Loses true (Deliver (node_of w.src) (node_of r.own) w.letter.number)) r (without_letter r w h.port)
unfolding port_to
dropped-room r w h = record {
  settings = refl;
  own = refl;
  ports = λ n. loses-one r w h n (seat r.settings (node_of r.own) n) refl;
}

pub dropped-sent : (r : RoomData) (w : Waiting) (h : IsWaiting r w) (stamp : ℕ) (dst : Node)
    → handed_to (without_letter r w h.port) stamp dst ≡ handed_to r stamp dst
dropped-sent r w h stamp dst =
    ap (λ l. l ++ mailed stamp (sends_of r.unsent dst)) (sent-drops (port_to r dst) (port_to (without_letter r w h.port) dst)
    ((room-places Drops r (without_letter r w h.port) refl refl (dropped-each r w h)).ports dst))

pub dropped-whole : (r : RoomData) (w : Waiting) (h : IsWaiting r w) → IsRoom r → IsRoom (without_letter r w h.port)
dropped-whole r w h i = record {
  allowed = i.allowed;
  ports = ports-keep r.settings (node_of r.own) r.ports (without_letter r w h.port).ports
      (each-weaker Drops SameLinks r.ports (without_letter r w h.port).ports drops-links (dropped-each r w h)) i.ports;
  unsent = i.unsent;
}

-- the port that is read is the one that is told of
pub port-read : (ports : List PortData) (k : ℕ) (x p : PortData) → x ≡ get_or ports k x → slice_get ports k ≡ Some p → x ≡ p
port-read ports k x p e h = e ∙ get_or_from_slice_get ports k p x h

-- ---- the first that isn't sent yet, as the code finds it

pub first-is : (items : List (NodeId × Msg)) (placed : ℕ) (x : NodeId × Msg) → 0 < length (drop placed items) → x ≡ get_or items placed x
    → drop placed items ≡ x ∷ drop (placed + 1) items
first-is items placed x l e =
    drop_more items placed x (omega (arith, l, length-drop placed items)) ∙ ap (λ y. y ∷ drop (placed + 1) items) (sym e)

-- what waits at a port waits there for the node
pub waiting-at : (r : RoomData) (k : ℕ) (p : PortData) (n : NodeId) (l : Letter) → IsRoom r → slice_get r.ports k ≡ Some p
    → n ≡ p.inlet.ends.src
    → IsLetter p l → IsWaiting r (record { seat = k; src = n; letter = l })
waiting-at r k p n l h e q i =
    let a : IsPortAt r.settings (node_of r.own) k p = h.ports.each k p e in
    record {
      port = p;
      at = e;
      place = ap (λ x. seat r.settings (node_of r.own) (node_of x)) (q ∙ a.mirrored) ∙ a.place;
      letter = i;
      carried = rw (q, ← a.in_settings, ← a.in_own) i.carried;
    }

-- ---- two rooms that are linked

pub found-at : (r : RoomData) (n : Node) (p : PortData) → port_to r n ≡ Some p
    → (k : ℕ) × (seat r.settings (node_of r.own) n ≡ Some k) × (slice_get r.ports k ≡ Some p)
unfolding port_to
found-at r n p h = by_seat (seat r.settings (node_of r.own) n) refl h
  where
    by_seat : (o : Option ℕ) → seat r.settings (node_of r.own) n ≡ o → option_and_then (slice_get r.ports) o ≡ Some p
        → (k : ℕ) × (seat r.settings (node_of r.own) n ≡ Some k) × (slice_get r.ports k ≡ Some p)
    by_seat None e h = absurd (cc)
    by_seat (Some k) e h = (k, e, h)

-- the place that the code finds is that one
pub port-found : (r : RoomData) (n : Node) (p : PortData) (k : ℕ) → port_to r n ≡ Some p → seat r.settings (node_of r.own) n ≡ Some k
    → slice_get r.ports k ≡ Some p
port-found r n p k h e =
    let f = found-at r n p h in
    let same : f.0 ≡ k = same_Some f.0 k (sym f.1 ∙ e) in
    rw (← same) f.2

pub set-same : (ports : List PortData) (k : ℕ) (x y : PortData) → x ≡ get_or ports k x → y ≡ x → slice_set ports k y ≡ ports
set-same ports k x y h e = rw (e, h) (set-get_or ports k x)

-- what was taken there is a beginning of what was sent here
pub heard : (a b : RoomData) (h : IsLinkedTo a b) (t : ℕ) (rest : List Mail) → h.there.outlet.sent ≡ h.back.inlet.got ++ rest
    → (more : List rules.Mail) × (handed_to a t (node_of b.own) ≡ taken_from b (node_of a.own) ++ more)
heard a b h t rest e =
    let late = rules.mailed t (sends_of a.unsent (node_of b.own)) in (
      map mail_of rest ++ late,
      ap (λ o. sent_at o ++ late) h.to ∙ (ap (λ l. map mail_of l ++ late) e
          ∙ (ap (λ l. l ++ late) (map-append mail_of h.back.inlet.got rest)
          ∙ (append_assoc (map mail_of h.back.inlet.got) (map mail_of rest) late
          ∙ ap (λ o. got_at o ++ (map mail_of rest ++ late)) (sym h.from)))),
    )
