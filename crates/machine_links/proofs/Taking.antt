-- A message taken from its lane, and one whose mark is set: what holds of the lanes, links, marks and counts.
use Rattle.std.proofs.Common.{◌≡◌, ℕ, ◌+◌, ◌-◌, ◌<◌, ◌≤◌, ◌==◌, Bool, true, false, ◌&&◌, if◌then◌else◌, List, [], map, length, get_or, set}
use Rattle.std.proofs.Common.{Option, Some, None, IsSome, IsTrue, refl, ap, sym, subst, ◌∙◌, arith}
use Rattle.std.specs.List.{count_by}
use Rattle.std.proofs.lemmas.Bool.{false≢true, and_parts, eqb-true}
use Rattle.std.proofs.lemmas.List.{length-map, set-get_or}
use Rattle.rules_maps.specs.Words.{num}
use Rattle.rules_maps.specs.Nodes.{Node, node_eq}
use Rattle.rules_tcc.specs.Links.{in_flight, taking}
use Rattle.rules_tcc.proofs.Lemmas.{node_eq-eq}
use Rattle.machine_links.specs.declared.lane.Held.{Held}
use Rattle.machine_links.specs.Lane.{Lane, message, is_marked, is_waiting, marked_as}
use Rattle.machine_links.specs.Places.{place}
use Rattle.machine_links.specs.declared.flights.InFlight.TheInside.{Inside}
use Rattle.machine_links.specs.FlightsInside.{IsFlights}
use Rattle.machine_links.specs.Flights.{Flights, lane_at, lane, net_of, is_ready, with_mark}
use Rattle.machine_links.proofs.Placing.{placed}
use Rattle.machine_links.proofs.Lanes.{Laned, laned-set, in-flight, mark-message, mark-of, mark-set, take-mark}
use Rattle.machine_links.proofs.Counts.{Counted, counted-at, flying-at, counted-set, within, take-waiting, take-marked, mark-waiting}
use Rattle.machine_links.proofs.Counts.{mark-marked}
use Rattle.machine_links.proofs.Flown.{with_lanes, net-taken, net-kept, ready-changed}
use Rattle.machine_links.proofs.Reading.{absent-unready}

-- the lanes with what is counted
pub record Stands (cs ds : ℕ) (ls : List Lane) (tree : List ℕ) (fl : ℕ) : Type 0 where
  pub laned : Laned cs ds ls
  pub counted : Counted ls tree fl

pub stands-of : (f : Inside) → IsFlights f → Stands f.grid.cores f.grid.dirs f.lanes.items f.ready f.flying
stands-of f inv = record {
  laned = record { all = inv.all; unlinked = inv.unlinked };
  counted = record { counted = inv.counted; flying = inv.flying };
}

pub below : (cs ds : ℕ) (ls : List Lane) (tree : List ℕ) (fl : ℕ) (s d : Node) (i : ℕ) → Stands cs ds ls tree fl → place cs ds s d ≡ Some i
    → i < length ls
below cs ds ls tree fl s d i stands at = omega (arith, (placed cs ds s d i at).below, stands.laned.all)

pub counted-below : (cs ds : ℕ) (ls : List Lane) (tree : List ℕ) (fl : ℕ) (s d : Node) (i : ℕ) → Stands cs ds ls tree fl
    → place cs ds s d ≡ Some i → i < length tree
counted-below cs ds ls tree fl s d i stands at =
    let a : i < length ls = below cs ds ls tree fl s d i stands at in
    let b : length tree ≡ length ls = ap length stands.counted.counted ∙ length-map ls (count_by is_marked) in omega arith

-- a message in flight is in its lane
some-held : (o : Option Held) → IsSome (message o) → IsSome o
unfolding message
some-held None h = h
some-held (Some x) h = refl

pub flies-held : (f : Flights) (s d : Node) (k : ℕ) (l : Lane) → l ≡ lane f s d → IsSome (in_flight (net_of f) s d k)
    → IsSome (get_or l k None)
flies-held f s d k l e h =
    some-held (get_or l k None) (subst (λ o. IsSome o) (in-flight f s d k ∙ ap (λ m. message (get_or m k None)) (sym e)) h)

is : (o : Option Held) → IsSome o → (h : Held) × (o ≡ Some h)
is None e = absurd (false≢true e)
is (Some h) e = (h, refl)

-- it is there with this mark
pub record Found (l : Lane) (k : ℕ) (was : Bool) : Type 0 where
  pub held : Held
  pub there : get_or l k None ≡ Some held
  pub mark : was ≡ held.ready

pub found : (f : Flights) (s d : Node) (k : ℕ) (l : Lane) (was : Bool) → l ≡ lane f s d → IsSome (in_flight (net_of f) s d k)
    → was ≡ is_marked (get_or l k None) → Found l k was
unfolding is_marked
found f s d k l was e fly mark =
    let t = is (get_or l k None) (flies-held f s d k l e fly) in
    record { held = t.0; there = t.1; mark = mark ∙ ap is_marked t.1 }

-- taken
pub taken-flying : (cs ds : ℕ) (ls : List Lane) (tree : List ℕ) (fl : ℕ) (s d : Node) (i k : ℕ) (l : Lane) (was : Bool)
    → Stands cs ds ls tree fl → place cs ds s d ≡ Some i
    → l ≡ get_or ls i [] → Found l k was → 1 ≤ fl
taken-flying cs ds ls tree fl s d i k l was stands at e t =
    let a : count_by is_waiting (get_or ls i []) ≤ fl = flying-at ls tree fl i stands.counted (below cs ds ls tree fl s d i stands at) in
    let b : count_by is_waiting l ≡ count_by is_waiting (get_or ls i []) = ap (count_by is_waiting) e in
    omega (arith, take-waiting l k t.held t.there)

pub taken-marked : (cs ds : ℕ) (ls : List Lane) (tree : List ℕ) (fl : ℕ) (s d : Node) (i k : ℕ) (l : Lane) (was : Bool)
    → Stands cs ds ls tree fl → place cs ds s d ≡ Some i
    → l ≡ get_or ls i [] → Found l k was → num was ≤ get_or tree i 0
taken-marked cs ds ls tree fl s d i k l was stands at e t =
    let a : get_or tree i 0 ≡ count_by is_marked (get_or ls i []) =
    counted-at ls tree fl i stands.counted (below cs ds ls tree fl s d i stands at) in
    let b : count_by is_marked l ≡ count_by is_marked (get_or ls i []) = ap (count_by is_marked) e in
    let c : num was ≡ num t.held.ready = ap num t.mark in
    omega (arith, take-marked l k t.held t.there)

pub taken-stands : (cs ds : ℕ) (ls : List Lane) (tree : List ℕ) (fl : ℕ) (s d : Node) (i k : ℕ) (l : Lane) (was : Bool)
    → Stands cs ds ls tree fl → place cs ds s d ≡ Some i
    → l ≡ get_or ls i [] → Found l k was
    → Stands cs ds (set ls i (set l k None)) (set tree i (get_or tree i 0 + num false - num was)) (fl - 1)
taken-stands cs ds ls tree fl s d i k l was stands at e t =
    let w : i < length ls = below cs ds ls tree fl s d i stands at in
    let a : get_or tree i 0 ≡ count_by is_marked (get_or ls i []) = counted-at ls tree fl i stands.counted w in
    let b : count_by is_marked l ≡ count_by is_marked (get_or ls i []) = ap (count_by is_marked) e in
    let c : num was ≡ num t.held.ready = ap num t.mark in
    let p : count_by is_waiting l ≡ count_by is_waiting (get_or ls i []) = ap (count_by is_waiting) e in
    let q : count_by is_waiting (get_or ls i []) ≤ fl = flying-at ls tree fl i stands.counted w in
    let m : count_by is_marked (set l k None) + num t.held.ready ≡ count_by is_marked l = take-marked l k t.held t.there in
    let n : count_by is_waiting (set l k None) + 1 ≡ count_by is_waiting l = take-waiting l k t.held t.there in
    record {
      laned = laned-set cs ds ls s d i (set l k None) stands.laned at;
      counted = counted-set ls tree fl (fl - 1) i (get_or tree i 0 + 0 - num was) (set l k None) stands.counted w (omega arith)
          (omega arith);
    }

pub taken-net : (cs ds : ℕ) (ls : List Lane) (tree : List ℕ) (fl : ℕ) (s d : Node) (i k : ℕ) (l : Lane) → Stands cs ds ls tree fl
    → place cs ds s d ≡ Some i
    → l ≡ get_or ls i [] → net_of (with_lanes cs ds (set ls i (set l k None))) ≡ taking (net_of (with_lanes cs ds ls)) s d k
taken-net cs ds ls tree fl s d i k l stands at e =
    ap (λ m. net_of (with_lanes cs ds (set ls i (set m k None)))) e ∙ net-taken cs ds ls s d i k (below cs ds ls tree fl s d i stands at) at

pub taken-ready : (cs ds : ℕ) (ls : List Lane) (tree : List ℕ) (fl : ℕ) (s d : Node) (i k : ℕ) (l : Lane) → Stands cs ds ls tree fl
    → place cs ds s d ≡ Some i
    → l ≡ get_or ls i [] → is_ready (with_lanes cs ds (set ls i (set l k None))) ≡ with_mark (is_ready (with_lanes cs ds ls)) s d k false
taken-ready cs ds ls tree fl s d i k l stands at e =
    ready-changed cs ds ls s d i k (set l k None) false (below cs ds ls tree fl s d i stands at) at
    (λ j. take-mark l k j ∙ ap (λ m. if j == k then false else is_marked (get_or m j None)) e)

-- nothing is taken where nothing has that number
pub absent-net : (f : Flights) (s d : Node) (k : ℕ) → in_flight (net_of f) s d k ≡ None → net_of f ≡ taking (net_of f) s d k
absent-net f s d k none = λ i t e. by t e (node_eq t s && node_eq e d) refl i
  where
    by : (t e : Node) (b : Bool) → (node_eq t s && node_eq e d) ≡ b
        → net_of f t e ≡ (if b then set (net_of f t e) k None else net_of f t e)
    by t e true q =
        let p = and_parts (node_eq t s) (node_eq e d) q in
        let n : get_or (net_of f t e) k None ≡ None =
        (λ i. get_or (net_of f (node_eq-eq t s p.0 i) (node_eq-eq e d p.1 i)) k None) ∙ none in
        sym (ap (λ o. set (net_of f t e) k o) (sym n) ∙ set-get_or (net_of f t e) k None)
    by t e false q = refl

pub absent-ready : (f : Flights) (s d : Node) (k : ℕ) → in_flight (net_of f) s d k ≡ None
    → is_ready f ≡ with_mark (is_ready f) s d k false
unfolding with_mark
absent-ready f s d k none = λ i t e j. by t e j (node_eq t s) refl (node_eq e d) refl (j == k) refl i
  where
    by : (t e : Node) (j : ℕ) (p : Bool) → node_eq t s ≡ p → (q : Bool) → node_eq e d ≡ q → (r : Bool) → (j == k) ≡ r
        → is_ready f t e j ≡ (if p && (q && r) then false else is_ready f t e j)
    by t e j true x true y true z =
        (λ i. is_ready f (node_eq-eq t s x i) (node_eq-eq e d y i) (eqb-true j k z i)) ∙ absent-unready f s d k none
    by t e j true x true y false z = refl
    by t e j true x false y r z = refl
    by t e j false x q y r z = refl

pub place-lane : (cs ds : ℕ) (ls : List Lane) (s d : Node) (i : ℕ) → place cs ds s d ≡ Some i
    → lane (with_lanes cs ds ls) s d ≡ get_or ls i []
unfolding lane
place-lane cs ds ls s d i at = ap (lane_at ls) at

pub place-no_lane : (cs ds : ℕ) (ls : List Lane) (s d : Node) → place cs ds s d ≡ None → lane (with_lanes cs ds ls) s d ≡ []
unfolding lane
place-no_lane cs ds ls s d at = ap (lane_at ls) at

-- by its mark before
mark-counts : (l : Lane) (k : ℕ) (b : Bool) → IsSome (get_or l k None)
    → (count_by is_marked (set l k (marked_as b (get_or l k None))) + num (is_marked (get_or l k None)) ≡ count_by is_marked l + num b)
    × (count_by is_waiting (set l k (marked_as b (get_or l k None))) ≡ count_by is_waiting l)
    × (k < length l)
unfolding is_marked
mark-counts l k b some =
    let t = is (get_or l k None) some in
    let m : num (is_marked (get_or l k None)) ≡ num t.0.ready = ap (λ o. num (is_marked o)) t.1 in
    (omega (arith, mark-marked l k b t.0 t.1), mark-waiting l k b t.0 t.1, within l k t.0 t.1)

pub marked-counted : (cs ds : ℕ) (ls : List Lane) (tree : List ℕ) (fl : ℕ) (s d : Node) (i k : ℕ) (l : Lane) (b : Bool)
    → Stands cs ds ls tree fl → place cs ds s d ≡ Some i
    → l ≡ get_or ls i [] → IsSome (get_or l k None) → num (is_marked (get_or l k None)) ≤ get_or tree i 0
marked-counted cs ds ls tree fl s d i k l b stands at e some =
    let a : get_or tree i 0 ≡ count_by is_marked (get_or ls i []) =
    counted-at ls tree fl i stands.counted (below cs ds ls tree fl s d i stands at) in
    let p : count_by is_marked l ≡ count_by is_marked (get_or ls i []) = ap (count_by is_marked) e in
    omega (arith, (mark-counts l k false some).0)

pub marked-fits : (cs ds : ℕ) (ls : List Lane) (tree : List ℕ) (fl : ℕ) (s d : Node) (i k : ℕ) (l : Lane) (b : Bool)
    → Stands cs ds ls tree fl → place cs ds s d ≡ Some i
    → l ≡ get_or ls i [] → IsSome (get_or l k None) → count_by is_marked (set l k (marked_as b (get_or l k None))) < 4294967296
    → IsTrue b → get_or tree i 0 + 1 - num (is_marked (get_or l k None)) < 4294967296
marked-fits cs ds ls tree fl s d i k l true stands at e some few on =
    let a : get_or tree i 0 ≡ count_by is_marked (get_or ls i []) =
    counted-at ls tree fl i stands.counted (below cs ds ls tree fl s d i stands at) in
    let p : count_by is_marked l ≡ count_by is_marked (get_or ls i []) = ap (count_by is_marked) e in
    omega (arith, (mark-counts l k true some).0)
marked-fits cs ds ls tree fl s d i k l false stands at e some few on = absurd (false≢true on)

pub marked-stands : (cs ds : ℕ) (ls : List Lane) (tree : List ℕ) (fl : ℕ) (s d : Node) (i k : ℕ) (l : Lane) (b : Bool)
    → Stands cs ds ls tree fl → place cs ds s d ≡ Some i
    → l ≡ get_or ls i [] → IsSome (get_or l k None)
    → Stands cs ds (set ls i (set l k (marked_as b (get_or l k None))))
    (set tree i (get_or tree i 0 + num b - num (is_marked (get_or l k None)))) fl
marked-stands cs ds ls tree fl s d i k l b stands at e some =
    let w : i < length ls = below cs ds ls tree fl s d i stands at in
    let a : get_or tree i 0 ≡ count_by is_marked (get_or ls i []) = counted-at ls tree fl i stands.counted w in
    let p : count_by is_marked l ≡ count_by is_marked (get_or ls i []) = ap (count_by is_marked) e in
    let q : count_by is_waiting l ≡ count_by is_waiting (get_or ls i []) = ap (count_by is_waiting) e in
    let m = mark-counts l k b some in
    record {
      laned = laned-set cs ds ls s d i (set l k (marked_as b (get_or l k None))) stands.laned at;
      counted = counted-set ls tree fl fl i (get_or tree i 0 + num b - num (is_marked (get_or l k None)))
          (set l k (marked_as b (get_or l k None))) stands.counted w
          (omega (arith, m.0)) (omega (arith, m.1));
    }

pub marked-net : (cs ds : ℕ) (ls : List Lane) (tree : List ℕ) (fl : ℕ) (s d : Node) (i k : ℕ) (l : Lane) (b : Bool)
    → Stands cs ds ls tree fl → place cs ds s d ≡ Some i
    → l ≡ get_or ls i [] → net_of (with_lanes cs ds (set ls i (set l k (marked_as b (get_or l k None))))) ≡ net_of (with_lanes cs ds ls)
marked-net cs ds ls tree fl s d i k l b stands at e =
    net-kept cs ds ls s d i (set l k (marked_as b (get_or l k None))) (below cs ds ls tree fl s d i stands at) at
    (mark-message l k b ∙ ap (map message) e)

pub marked-ready : (cs ds : ℕ) (ls : List Lane) (tree : List ℕ) (fl : ℕ) (s d : Node) (i k : ℕ) (l : Lane) (b : Bool)
    → Stands cs ds ls tree fl → place cs ds s d ≡ Some i
    → l ≡ get_or ls i [] → IsSome (get_or l k None)
    → is_ready (with_lanes cs ds (set ls i (set l k (marked_as b (get_or l k None))))) ≡ with_mark (is_ready (with_lanes cs ds ls)) s d k b
marked-ready cs ds ls tree fl s d i k l b stands at e some =
    ready-changed cs ds ls s d i k (set l k (marked_as b (get_or l k None))) b (below cs ds ls tree fl s d i stands at) at
    (λ j. mark-set l k j (marked_as b (get_or l k None)) (mark-counts l k b some).2
    ∙ ((λ t. if j == k then mark-of (get_or l k None) b some t else is_marked (get_or (e t) j None))))
