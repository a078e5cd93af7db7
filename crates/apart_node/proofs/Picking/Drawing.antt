-- What a number picks, by the counts of all ports.
use Rattle.std.proofs.Common.{◌≡◌, ℕ, ◌+◌, ◌<◌, length, sum, take, Some, ap, ◌∙◌, arith}
use Rattle.std.specs.Prelude.{option_map, slice_get}
use Rattle.std.proofs.lemmas.Option.{slice_get-map}
use Rattle.base_sums.specs.Falls.{FallsAt}
use Rattle.rules_maps.specs.Bridge.{node_of}
use Rattle.apart_member.specs.Data.{MemberData}
use Rattle.apart_node.specs.Choice.{all_deliveries, deliveries, delivery, ready_in}
use Rattle.apart_node.specs.Deeds.{IsReady}
use Rattle.apart_node.specs.Drawn.{IsLetterDrawn, draws_from}
use Rattle.apart_node.specs.Ports.{PortData, RoomData}
use Rattle.apart_node.specs.Tally.{AreReady, IsTallied, TallyData}
use Rattle.apart_node.specs.declared.room.Waiting.{Waiting}
use Rattle.apart_node.proofs.Picking.Deliveries.{flat-kth}
use Rattle.apart_node.proofs.Picking.Tallied.{ready-sum, ready-sum_to}

module _ (r : RoomData) (m : MemberData) (last own : ℕ) (t : TallyData) (tallied : IsTallied r.ports t)
    (ready : AreReady m last r.ports t.ready) where
  -- so many can be picked
  pub all-drawn : (n total : ℕ) → total ≡ sum t.ready → n ≡ total → own + n ≡ draws_from r m last own
  all-drawn n total is same =
      let s = ready-sum m last r.ports t.ready tallied.ready_count ready in
      ap (λ k. own + k) (same ∙ is ∙ s)

  module _ (k seat into : ℕ) (falls : FallsAt t.ready k seat into) where
    pub falls-within : seat < length r.ports
    falls-within = let e = falls.exists in let n = tallied.ready_count in omega (arith, e, n)

    -- there is such a message at that port
    pub falls-below : (p : PortData) → slice_get r.ports seat ≡ Some p → into < length (ready_in m last p)
    falls-below p e = let w = falls.within in let n = ready seat p e in omega (arith, w, n)

    pub letter-drawn : (p : PortData) (w : Waiting) (picked : ℕ) → slice_get r.ports seat ≡ Some p → picked ≡ own + k
        → node_of w.src ≡ node_of p.inlet.ends.src → node_of r.own ≡ node_of m.node → IsReady r m last w
        → slice_get (ready_in m last p) into ≡ Some (w.letter.number, w.letter.mail) → IsLetterDrawn r m last own picked w
    unfolding all_deliveries
    letter-drawn p w picked at place src mine can kth =
        let f = delivery (node_of m.node) (node_of p.inlet.ends.src) in
        let one : slice_get (deliveries m last p) into ≡ Some (f (w.letter.number, w.letter.mail)) =
        slice_get-map f (ready_in m last p) into ∙ ap (option_map f) kth in
        let before : k ≡ length (all_deliveries m last (take seat r.ports)) + into =
        falls.before ∙ ap (λ n. n + into) (ready-sum_to m last r.ports t.ready tallied.ready_count ready seat) in
        record {
          behind = k;
          place = place;
          ready = can;
          at = rw (src, mine) (flat-kth (deliveries m last) r.ports seat into k p (f (w.letter.number, w.letter.mail)) at one before);
        }
