-- The first of what isn't sent yet goes onto its link, and what was sent stays the same.
use Rattle.std.proofs.Common.{◌≡◌, ◌≢◌, ℕ, ◌<◌, Bool, true, false, cond, if◌then◌else◌, List, [], ◌∷◌, ◌++◌, length, Option, Some}
use Rattle.std.proofs.Common.{None, append_assoc, refl, ap, sym, ◌∙◌}
use Rattle.std.specs.Prelude.{slice_get, slice_set, option_and_then}
use Rattle.std.proofs.lemmas.List.{map-append}
use Rattle.tcc_base.specs.declared.names.NodeId.{NodeId}
use Rattle.rules_maps.specs.Bridge.{node_of}
use Rattle.base_lemmas.proofs.Lemmas.{get-set, get-set_other, node_eq-refl}
use Rattle.rules_maps.specs.Nodes.{Node, Msg as PlainMsg, node_eq}
use Rattle.tcc_msg.specs.Plain.{msg_of, sends_of}
use Rattle.tcc_msg.specs.declared.msg.Msg.{Msg}
use Rattle.rules_tcc.specs.Local as rules
use Rattle.rules_tcc.specs.Local.{mailed}
use Rattle.rules_tcc.proofs.Lemmas.{node_eq-eq}
use Rattle.rules_apart.specs.Filled.{mail_of}
use Rattle.rules_apart.specs.declared.logs.Mail.{Mail}
use Rattle.apart_node.specs.Peers.{seat}
use Rattle.apart_node.specs.Ports.{PortData, RoomData, handed_to, port_to, sent_at}
use Rattle.apart_node.proofs.Porting.Seats.{seat-same}

-- the room with the message on its link
abbrev pub with_sent : PortData → Mail → PortData
with_sent p m = record p { outlet = record p.outlet { sent = p.outlet.sent ++ m ∷ [] } }

abbrev pub posted : RoomData → (k : ℕ) → PortData → Mail → (rest : List (NodeId × Msg)) → RoomData
posted r k p m rest = record r { ports = slice_set r.ports k (with_sent p m); unsent = rest }

mailed-cons : (t : ℕ) (m : PlainMsg) (ms : List PlainMsg) → rules.mailed t (m ∷ ms) ≡ record { msg = m; stamp = t } ∷ rules.mailed t ms
unfolding mailed
mailed-cons t m ms = refl

abbrev first_to : (dst : Node) → NodeId → Msg → List PlainMsg
first_to dst d m = if node_eq dst (node_of d) then msg_of m ∷ [] else []

module _ (r : RoomData) (k : ℕ) (p : PortData) (t : ℕ) (d : NodeId) (m : Msg) (rest : List (NodeId × Msg))
    (first : r.unsent ≡ (d, m) ∷ rest) (at : slice_get r.ports k ≡ Some p) (to : seat r.settings (node_of r.own) (node_of d) ≡ Some k)
    (in' : k < length r.ports) where
  abbrev mail : Mail
  mail = record { stamp = t; msg = m }

  abbrev ports_after : List PortData
  ports_after = slice_set r.ports k (with_sent p mail)

  -- to the message's own destination
  there : sent_at (option_and_then (slice_get ports_after) (Some k)) ≡ sent_at (option_and_then (slice_get r.ports) (Some k)) ++ mail_of
      mail ∷ []
  there = rw (get-set r.ports k (with_sent p mail) in', at) (map-append mail_of p.outlet.sent (mail ∷ []))

  -- to another
  elsewhere : (dst : Node) (o : Option ℕ) → seat r.settings (node_of r.own) dst ≡ o → node_eq dst (node_of d) ≡ false
      → sent_at (option_and_then (slice_get ports_after) o) ≡ sent_at (option_and_then (slice_get r.ports) o)
  elsewhere dst None q n = refl
  elsewhere dst (Some j) q n =
      let apart : j ≢ k = λ e. absurd (let same : dst ≡ node_of d = seat-same r.settings (node_of r.own) dst (node_of d) k (q
      ∙ ap (λ i. Some i) e) to in
      let yes' : node_eq dst (node_of d) ≡ true = rw same (node_eq-refl (node_of d)) in cc) in
      rw (get-set_other r.ports k j (with_sent p mail) apart)

  by_test : (dst : Node) (b : Bool) → node_eq dst (node_of d) ≡ b
      → sent_at (option_and_then (slice_get ports_after) (seat r.settings (node_of r.own) dst)) ++ rules.mailed t (sends_of rest dst)
      ≡ sent_at (option_and_then (slice_get r.ports) (seat r.settings (node_of r.own) dst)) ++ rules.mailed t
      (cond b (msg_of m ∷ []) [] ++ sends_of rest dst)
  by_test dst true q =
      let same : dst ≡ node_of d = node_eq-eq dst (node_of d) q in
      let s : seat r.settings (node_of r.own) dst ≡ Some k = ap (seat r.settings (node_of r.own)) same ∙ to in
      rw s (ap (λ l. l ++ rules.mailed t (sends_of rest dst)) there
      ∙ (append_assoc (sent_at (option_and_then (slice_get r.ports) (Some k))) (mail_of mail ∷ []) (rules.mailed t (sends_of rest dst))
      ∙ ap (λ l. sent_at (option_and_then (slice_get r.ports) (Some k)) ++ l) (sym (mailed-cons t (msg_of m) (sends_of rest dst)))))
  by_test dst false q = ap (λ l. l ++ rules.mailed t (sends_of rest dst)) (elsewhere dst (seat r.settings (node_of r.own) dst) refl q)

  pub posted-same : (dst : Node) → handed_to (posted r k p mail rest) t dst ≡ handed_to r t dst
  unfolding port_to sends_of
  posted-same dst = by_test dst (node_eq dst (node_of d)) refl
      ∙ ap (λ l. sent_at (option_and_then (slice_get r.ports) (seat r.settings (node_of r.own) dst)) ++ rules.mailed t (sends_of l dst))
      (sym first)
