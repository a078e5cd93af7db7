-- What the lanes, links, marks and counts are behind a message that was sent.
use Rattle.std.proofs.Common.{◌≡◌, ℕ, suc, zero, ◌+◌, ◌-◌, ◌<◌, ◌==◌, Bool, true, false, ◌&&◌, if◌then◌else◌, List, [], ◌∷◌, ◌++◌, map}
use Rattle.std.proofs.Common.{length, get_or, set, Some, None, IsTrue, refl, ap, sym, ◌∙◌, append-nil, arith}
use Rattle.std.specs.List.{count_by}
use Rattle.std.proofs.lemmas.Bool.{ne_eqb}
use Rattle.std.proofs.lemmas.Bool.Decides.{nat_tests}
use Rattle.std.proofs.lemmas.List.{length-map, map-append}
use Rattle.tcc_base.specs.declared.names.NodeId.{NodeId}
use Rattle.rules_maps.specs.Words.{num}
use Rattle.rules_maps.specs.Nodes.{Node, node_eq}
use Rattle.rules_maps.specs.Bridge.{node_of}
use Rattle.tcc_msg.specs.Plain.{msg_of, sends_of}
use Rattle.rules_tcc.specs.Links.{sending, sent_all}
use Rattle.machine_links.specs.declared.lane.Held.{Held}
use Rattle.machine_links.specs.Lane.{Lane, message, is_marked, is_waiting}
use Rattle.machine_links.specs.Places.{place}
use Rattle.machine_links.specs.Flights.{lane_at, lane, net_of, is_ready, with_mark}
use Rattle.machine_links.proofs.Lanes.{laned-set, lane-set}
use Rattle.machine_links.proofs.Counts.{counted-at, counted-set, push-waiting, push-marked}
use Rattle.machine_links.proofs.Flown.{with_lanes, same-lane, ready-changed}
use Rattle.machine_links.proofs.Taking.{Stands, below, place-lane}

-- its number
pub sent-number : (cs ds : ℕ) (ls : List Lane) (s d : Node) (i : ℕ) (l : Lane) → place cs ds s d ≡ Some i → l ≡ get_or ls i []
    → length l ≡ length (net_of (with_lanes cs ds ls) s d)
unfolding net_of
sent-number cs ds ls s d i l at e =
    ap length (e ∙ sym (place-lane cs ds ls s d i at)) ∙ sym (length-map (lane (with_lanes cs ds ls) s d) message)

pub sent-fits : (cs ds : ℕ) (ls : List Lane) (tree : List ℕ) (fl : ℕ) (s d : Node) (i : ℕ) (l : Lane) (h : Held) → Stands cs ds ls tree fl
    → place cs ds s d ≡ Some i → l ≡ get_or ls i [] → count_by is_marked (l ++ Some h ∷ []) < 4294967296
    → IsTrue h.ready → get_or tree i 0 + 1 - num false < 4294967296
sent-fits cs ds ls tree fl s d i l h stands at e few on =
    let a : get_or tree i 0 ≡ count_by is_marked (get_or ls i []) =
    counted-at ls tree fl i stands.counted (below cs ds ls tree fl s d i stands at) in
    let b : count_by is_marked l ≡ count_by is_marked (get_or ls i []) = ap (count_by is_marked) e in
    let one : num h.ready ≡ 1 = ap num on in
    omega (arith, push-marked l h)

pub sent-stands : (cs ds : ℕ) (ls : List Lane) (tree : List ℕ) (fl : ℕ) (s d : Node) (i : ℕ) (l : Lane) (h : Held)
    → Stands cs ds ls tree fl → place cs ds s d ≡ Some i → l ≡ get_or ls i []
    → Stands cs ds (set ls i (l ++ Some h ∷ [])) (set tree i (get_or tree i 0 + num h.ready - num false)) (fl + 1)
sent-stands cs ds ls tree fl s d i l h stands at e =
    let w : i < length ls = below cs ds ls tree fl s d i stands at in
    let a : get_or tree i 0 ≡ count_by is_marked (get_or ls i []) = counted-at ls tree fl i stands.counted w in
    let b : count_by is_marked l ≡ count_by is_marked (get_or ls i []) = ap (count_by is_marked) e in
    record {
      laned = laned-set cs ds ls s d i (l ++ Some h ∷ []) stands.laned at;
      counted = counted-set ls tree fl (fl + 1) i (get_or tree i 0 + num h.ready - 0) (l ++ Some h ∷ []) stands.counted w
          (omega (arith, push-marked l h)) (waiting (get_or ls i []) e);
    }
  where
    waiting : (m : Lane) → l ≡ m → fl + 1 + count_by is_waiting m ≡ fl + count_by is_waiting (l ++ Some h ∷ [])
    waiting m f = omega (arith, push-waiting l h, ap (count_by is_waiting) f)

pub sent-net : (cs ds : ℕ) (ls : List Lane) (tree : List ℕ) (fl : ℕ) (s : Node) (to : NodeId) (i : ℕ) (l : Lane) (h : Held)
    → Stands cs ds ls tree fl → place cs ds s (node_of to) ≡ Some i → l ≡ get_or ls i []
    → net_of (with_lanes cs ds (set ls i (l ++ Some h ∷ []))) ≡ sending (net_of (with_lanes cs ds ls)) s (sends_of ((to, h.msg) ∷ []))
unfolding net_of lane message sends_of sent_all
sent-net cs ds ls tree fl s to i l h stands at e =
    λ t a b. (ap (map message)
    (lane-set cs ds ls s (node_of to) i (l ++ Some h ∷ []) (below cs ds ls tree fl s (node_of to) i stands at) at a b)
    ∙ by a b (node_eq a s) refl (node_eq b (node_of to)) refl) t
  where
    by : (a b : Node) (p : Bool) → node_eq a s ≡ p → (q : Bool) → node_eq b (node_of to) ≡ q
        → map message (if p && q then l ++ Some h ∷ [] else lane_at ls (place cs ds a b))
        ≡ (if p then map message (lane_at ls (place cs ds a b)) ++ sent_all ((if q then msg_of h.msg ∷ [] else []) ++ [])
        else map message (lane_at ls (place cs ds a b)))
    by a b true x true y =
        map-append message l (Some h ∷ [])
        ∙ ap (λ k. map message k ++ Some (msg_of h.msg) ∷ [])
        (e ∙ sym (same-lane cs ds ls s (node_of to) a b i at (λ t. x t && y t)))
    by a b true x false y = sym (append-nil (map message (lane_at ls (place cs ds a b))))
    by a b false x q y = refl

marks-behind : (l : Lane) (h : Held) (j : ℕ)
    → is_marked (get_or (l ++ Some h ∷ []) j None) ≡ (if j == length l then h.ready else is_marked (get_or l j None))
unfolding is_marked
marks-behind [] h zero = refl
marks-behind [] h (suc j) = rw (ne_eqb (suc j) 0 (λ e. absurd (omega (arith, e)))) refl
marks-behind (x ∷ xs) h zero = rw (ne_eqb 0 (suc (length xs)) (λ e. absurd (omega (arith, e)))) refl
marks-behind (x ∷ xs) h (suc j) =
    let both : (suc j == suc (length xs)) ≡ (j == length xs) = grind (arith, nat_tests) in
    rw both (marks-behind xs h j)

pub sent-ready : (cs ds : ℕ) (ls : List Lane) (tree : List ℕ) (fl : ℕ) (s d : Node) (i : ℕ) (l : Lane) (h : Held) → Stands cs ds ls tree fl
    → place cs ds s d ≡ Some i → l ≡ get_or ls i []
    → is_ready (with_lanes cs ds (set ls i (l ++ Some h ∷ [])))
    ≡ with_mark (is_ready (with_lanes cs ds ls)) s d (length (net_of (with_lanes cs ds ls) s d)) h.ready
sent-ready cs ds ls tree fl s d i l h stands at e =
    ready-changed cs ds ls s d i (length l) (l ++ Some h ∷ []) h.ready (below cs ds ls tree fl s d i stands at) at
    (λ j. marks-behind l h j ∙ ap (λ m. if j == length l then h.ready else is_marked (get_or m j None)) e)
    ∙ ap (λ k. with_mark (is_ready (with_lanes cs ds ls)) s d k h.ready) (sent-number cs ds ls s d i l at e)
