-- The two ports are the ones of their places, and joined.
use Rattle.std.proofs.Common.{◌≡◌, ◌++◌, ◌∷◌, [], ◌+◌, ◌<◌, List, Some, subst, arith, rules, refl, ap, sym, ◌∙◌, length, true}
use Rattle.std.specs.Prelude.{slice_get, slice_index_or, slice_set, nat_lt}
use Rattle.std.proofs.lemmas.Bool.Decides.{nat_tests}
use Rattle.base_lemmas.proofs.Lemmas.{get-set_other, get-some, length-set}
use Rattle.rules_maps.specs.Bridge.{node_of}
use Rattle.apart_node.specs.Peers.{seat}
use Rattle.apart_node.specs.Ports.{PortData, IsPortAt, IsUnused}
use Rattle.node_locks.specs.Joining.{AreJoined, AreJoinedTo}
use Rattle.node_locks.specs.Places.{nth_node}
use Rattle.node_locks.proofs.Joining.{join-one}
use Rattle.node_locks.proofs.Seats.{on-ok, port-at, seats}
use Rattle.node_locks.proofs.making.join_two.Goals as goal

pub returns : goal.returns
returns c =
    let s = c.args.config.now in
    let core = c.args.core in
    let k = c.args.k in
    let rooms = c.args.rooms.now in
    let once = slice_set rooms core c.push.new.self in
    let place : c.cores.result + k ≡ s.cores + k = ap (λ n. n + k) c.cores.ensures.value in
    let row = slice_index_or rooms core c.index-rooms-core.result in
    let col = slice_index_or once (c.cores.result + k) c.index-rooms-place.result in
    let p = c.new.result in
    let q = c.new-2.result in
    let got_row : slice_get rooms core ≡ Some row =
    get-some rooms core c.index-rooms-core.result (omega (arith, c.requires.so_far.count, c.requires.core)) in
    let in_once : c.cores.result + k < length once =
    omega (arith, place, length-set rooms core c.push.new.self, c.requires.so_far.count, c.requires.other) in
    let got_col : slice_get rooms (s.cores + k) ≡ Some col =
    subst (λ n. slice_get rooms n ≡ Some col) place
    (sym (get-set_other rooms core (c.cores.result + k) c.push.new.self (λ e. omega (arith, e, place, c.requires.core)))
    ∙ get-some once (c.cores.result + k) c.index-rooms-place.result in_once) in
    let first : nat_lt core s.cores ≡ true = grind (arith, nat_tests, c.requires.core) in
    let own = c.in-Ok.ensures.outlet.0 in
    let peer : node_of c.nth_node-peer.result ≡ nth_node s (s.cores + k) = c.nth_node-peer.ensures ∙ ap (nth_node s) place in
    let at = seats s core k c.requires.core c.requires.other in
    let p_at : IsPortAt s (nth_node s core) k p =
    subst (λ (x : PortData). IsPortAt s (nth_node s core) k x) (sym c.new.ensures)
    (port-at s (nth_node s core) k _ c.nth_node-peer.result _ own c.in-Ok-link.ensures.inlet.0 (rw first refl)
    (subst (λ n. seat s (nth_node s core) n ≡ Some k) (sym peer) at.there)) in
    let q_at : IsPortAt s (nth_node s (s.cores + k)) core q =
    subst (λ (x : PortData). IsPortAt s (nth_node s (s.cores + k)) core x) (sym c.new-2.ensures)
    (port-at s (nth_node s (s.cores + k)) core c.nth_node-peer.result _ _ c.in-Ok-link.ensures.outlet.0 c.in-Ok.ensures.inlet.0 peer
    (subst (λ n. seat s (nth_node s (s.cores + k)) n ≡ Some core) (rw first refl) at.back)) in
    let p_new : IsUnused p = subst IsUnused (sym c.new.ensures) (record {
      sent = c.in-Ok.ensures.outlet.1;
      got =
          c.in-Ok-link.ensures.inlet.1;
      pool = refl;
    }) in
    let q_new : IsUnused q = subst IsUnused (sym c.new-2.ensures) (record {
      sent = c.in-Ok-link.ensures.outlet.1;
      got =
          c.in-Ok.ensures.inlet.1;
      pool = refl;
    }) in
    let join : AreJoined p q = subst (λ (x : PortData). AreJoined x q) (sym c.new.ensures)
    (subst (λ (y : PortData). AreJoined (record { outlet = c.in-Ok.outlet; inlet = c.in-Ok-link.inlet; pool = [] }) y) (sym c.new-2.ensures)
    (record { there = sym c.in-Ok.ensures.one; back = sym c.in-Ok-link.ensures.one })) in
    let pushed : c.push.new.self ≡ row ++ p ∷ [] = search rules in
    let done = join-one s core k rooms row col p q c.requires.core c.requires.other c.requires.so_far got_row got_col p_at p_new q_at q_new
    join in
    on-ok c.push-2.result c.push-2.new.self col (col ++ q ∷ []) c.push-2.ensures
    (λ (l : List PortData). AreJoinedTo s core (k + 1) (slice_set (slice_set rooms core c.push.new.self) (c.cores.result + k) l))
    (subst (λ (l : List PortData). AreJoinedTo s core (k + 1) (slice_set (slice_set rooms core l) (c.cores.result + k) (col ++ q ∷ [])))
    (sym pushed)
    (subst (λ n. AreJoinedTo s core (k + 1) (slice_set (slice_set rooms core (row ++ p ∷ [])) n (col ++ q ∷ []))) (sym place) done))
