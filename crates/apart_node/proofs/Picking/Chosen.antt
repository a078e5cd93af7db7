-- From what a number picks to the node's event.
use Rattle.std.proofs.Common.{◌≡◌, ℕ, ◌+◌, ◌%◌, ◌^◌, ◌<◌, ◌≤◌, ◌⊎◌, Bool, true, false, List, [], ◌∷◌, length, Option, Some, None}
use Rattle.std.proofs.Common.{max, refl, ap, sym, ◌∙◌, arith}
use Rattle.std.specs.Prelude.{nat_lt, slice_get, MatchOption, IsSomeAnd}
use Rattle.std.specs.List.{filter}
use Rattle.std.proofs.lemmas.Bool.Decides.{nat_tests}
use Rattle.std.proofs.lemmas.List.{length-map}
use Rattle.tcc_base.specs.Limits.{run_limit}
use Rattle.base_lemmas.proofs.Lemmas.{flat-nothing}
use Rattle.rules_maps.specs.Bridge.{node_of}
use Rattle.rules_maps.specs.Nodes.{Node, Deliver}
use Rattle.tcc_msg.specs.Plain.{event_of}
use Rattle.rules_apart.specs.declared.logs.Mail.{Mail}
use Rattle.apart_member.specs.Data.{MemberData}
use Rattle.apart_member.specs.Own.{own_events}
use Rattle.apart_node.specs.Choice.{all_deliveries, alone, deliveries, own_choices, ready, ready_in, useful}
use Rattle.apart_node.specs.Deeds.{IsChoice, IsPossible}
use Rattle.apart_node.specs.Drawn.{IsLetterDrawn, draws_from}
use Rattle.apart_node.specs.Node.{NodeData, last_stamp}
use Rattle.apart_node.specs.Ports.{PortData}
use Rattle.apart_node.specs.declared.choosing.Deed.{Deed}
use Rattle.apart_node.specs.declared.room.Waiting.{Waiting}
use Rattle.apart_node.proofs.Picking.Choices.{own-kth, possible-waiting, useful-length, waiting-kth}

-- ---- with no stamp left

late : (last stamp : ℕ) → 2 ^ 62 ≤ last → nat_lt (max last stamp) (2 ^ 62) ≡ false
late last stamp h = grind (arith, nat_tests)

none-early : (last : ℕ) → 2 ^ 62 ≤ last → nat_lt last (2 ^ 62) ≡ false
none-early last h = grind (arith, nat_tests)

ready-late : (m : MemberData) (last : ℕ) (src : Node) (e : ℕ × Mail) → 2 ^ 62 ≤ last → ready m last src e ≡ false
unfolding ready
ready-late m last src e h = let t = late last e.1.stamp h in rw t refl

filter-nothing : {A : Type 0} (f : A → Bool) (xs : List A) → ((x : A) → f x ≡ false) → filter f xs ≡ []
filter-nothing f [] h = refl
filter-nothing f (x ∷ xs) h = let t = h x in rw t (filter-nothing f xs h)

no-delivery : (m : MemberData) (last : ℕ) (p : PortData) → 2 ^ 62 ≤ last → deliveries m last p ≡ []
unfolding ready_in
no-delivery m last p h =
    let none = filter-nothing (ready m last (node_of p.inlet.ends.src)) p.pool (λ e. ready-late m last (node_of p.inlet.ends.src) e h) in
    rw none refl

no-own : (m : MemberData) (last : ℕ) → 2 ^ 62 ≤ last → own_choices m last ≡ []
unfolding own_choices
no-own m last h = let t = none-early last h in rw t refl

pub late-useless : (n : NodeData) → 2 ^ 62 ≤ last_stamp n.log → useful n ≡ []
unfolding useful all_deliveries
late-useless n h =
    let own = no-own n.member (last_stamp n.log) h in
    let rest = flat-nothing (deliveries n.member (last_stamp n.log)) n.room.ports (λ p. no-delivery n.member (last_stamp n.log) p h) in
    rw (own, rest) refl

-- ---- with a stamp

early : (last : ℕ) → last < 2 ^ 62 → nat_lt last (2 ^ 62) ≡ true
early last h = grind (arith, nat_tests)

pub own-length : (m : MemberData) (last : ℕ) → last < 2 ^ 62 → length (own_choices m last) ≡ length (own_events m)
unfolding own_choices
own-length m last h = let t = early last h in rw t (length-map (own_events m) alone)

module _ (n : NodeData) (own : ℕ) (own_is : own ≡ length (own_events n.member)) (time : last_stamp n.log < 2 ^ 62) where
  pub draws-useful : draws_from n.room n.member (last_stamp n.log) own ≡ length (useful n)
  draws-useful =
      let u = useful-length n in
      let o = own-length n.member (last_stamp n.log) time in
      omega (arith, u, o, own_is)

  pub own-within : (k : ℕ) → k < own → k < length (own_choices n.member (last_stamp n.log))
  own-within k h = let o = own-length n.member (last_stamp n.log) time in omega (arith, o, own_is, h)

  -- one of its own
  pub own-chosen : (pick k : ℕ) (r : Option Deed) → k ≡ pick % draws_from n.room n.member (last_stamp n.log) own → k < own
      → IsSomeAnd r (λ d. (d.waiting ≡ None) × (Some (event_of d.event) ≡ slice_get (own_events n.member) k) × IsPossible n d)
      → MatchOption r ((useful n ≡ []) ⊎ (length n.log ≡ run_limit)) (IsChoice n pick)
  own-chosen pick k None picked below h = absurd h
  own-chosen pick k (Some d) picked below h =
      let at = own-kth n k (event_of d.event) (own-within k below) h.1 in
      let place : k ≡ pick % length (useful n) = picked ∙ ap (λ t. pick % t) draws-useful in
      record { picked = rw (h.0, ← place) at; possible = h.2 }

  -- a message that waits
  pub letter-chosen : (pick : ℕ) (w : Waiting) (d : Deed)
      → IsLetterDrawn n.room n.member (last_stamp n.log) own (pick % draws_from n.room n.member (last_stamp n.log) own) w
      → d.waiting ≡ Some w → event_of d.event ≡ Deliver (node_of w.src) (node_of n.member.node) w.letter.number
      → n.room.own ≡ n.member.node → length n.log < run_limit → IsChoice n pick d
  letter-chosen pick w d drawn q e mine few =
      let o = own-length n.member (last_stamp n.log) time in
      let at = drawn.at in
      let own-at = rw mine at at in
      let place : pick % length (useful n) ≡ length (own_choices n.member (last_stamp n.log)) + drawn.behind =
      ap (λ t. pick % t) (sym draws-useful) ∙ drawn.place ∙ ap (λ t. t + drawn.behind) (own_is ∙ sym o) in
      record {
        picked = rw (e, q) (waiting-kth n (pick % length (useful n)) drawn.behind _ place own-at);
        possible = possible-waiting n d w q e few drawn.ready;
      }
