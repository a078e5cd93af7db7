-- The links of the rules and the marks after a change of one lane. What is listed plays no part in either.
use Rattle.std.proofs.Common.{◌≡◌, ℕ, ◌<◌, ◌==◌, Bool, true, false, ◌&&◌, if◌then◌else◌, List, [], map, length, get_or, set, Some, None}
use Rattle.std.proofs.Common.{refl, ap, sym, ◌∙◌}
use Rattle.std.proofs.lemmas.Bool.{and_parts}
use Rattle.rules_maps.specs.Nodes.{Node, node_eq}
use Rattle.rules_tcc.specs.Links.{taking}
use Rattle.rules_tcc.proofs.Lemmas.{node_eq-eq}
use Rattle.machine_links.specs.Lane.{Lane, message, is_marked}
use Rattle.machine_links.specs.Places.{place}
use Rattle.machine_links.specs.Flights.{Flights, lane_at, lane, net_of, is_ready, with_mark}
use Rattle.machine_links.proofs.Lanes.{lane-set, take-message}

abbrev pub with_lanes : ℕ → ℕ → List Lane → Flights
with_lanes cs ds ls = record { cores = cs; dirs = ds; lanes = ls; index = [] }

-- the lane of the link that is named
pub same-lane : (cs ds : ℕ) (ls : List Lane) (s0 d0 s d : Node) (i : ℕ) → place cs ds s0 d0 ≡ Some i → (node_eq s s0 && node_eq d d0) ≡ true
    → lane_at ls (place cs ds s d) ≡ get_or ls i []
same-lane cs ds ls s0 d0 s d i at e =
    let t = and_parts (node_eq s s0) (node_eq d d0) e in
    ap (lane_at ls) ((λ k. place cs ds (node_eq-eq s s0 t.0 k) (node_eq-eq d d0 t.1 k)) ∙ at)

pub net-taken : (cs ds : ℕ) (ls : List Lane) (s0 d0 : Node) (i k : ℕ) → i < length ls → place cs ds s0 d0 ≡ Some i
    → net_of (with_lanes cs ds (set ls i (set (get_or ls i []) k None))) ≡ taking (net_of (with_lanes cs ds ls)) s0 d0 k
unfolding net_of lane
net-taken cs ds ls s0 d0 i k h at =
    λ t s d. (ap (map message) (lane-set cs ds ls s0 d0 i (set (get_or ls i []) k None) h at s d)
    ∙ by s d (node_eq s s0 && node_eq d d0) refl) t
  where
    by : (s d : Node) (b : Bool) → (node_eq s s0 && node_eq d d0) ≡ b
        → map message (if b then set (get_or ls i []) k None else lane_at ls (place cs ds s d))
        ≡ (if b then set (map message (lane_at ls (place cs ds s d))) k None else map message (lane_at ls (place cs ds s d)))
    by s d true e = ap (λ l. map message (set l k None)) (sym (same-lane cs ds ls s0 d0 s d i at e))
        ∙ take-message (lane_at ls (place cs ds s d)) k
    by s d false e = refl

pub net-kept : (cs ds : ℕ) (ls : List Lane) (s0 d0 : Node) (i : ℕ) (l : Lane) → i < length ls → place cs ds s0 d0 ≡ Some i
    → map message l ≡ map message (get_or ls i [])
    → net_of (with_lanes cs ds (set ls i l)) ≡ net_of (with_lanes cs ds ls)
unfolding net_of lane
net-kept cs ds ls s0 d0 i l h at same =
    λ t s d. (ap (map message) (lane-set cs ds ls s0 d0 i l h at s d) ∙ by s d (node_eq s s0 && node_eq d d0) refl) t
  where
    by : (s d : Node) (b : Bool) → (node_eq s s0 && node_eq d d0) ≡ b
        → map message (if b then l else lane_at ls (place cs ds s d)) ≡ map message (lane_at ls (place cs ds s d))
    by s d true e = same ∙ ap (map message) (sym (same-lane cs ds ls s0 d0 s d i at e))
    by s d false e = refl

pub ready-changed : (cs ds : ℕ) (ls : List Lane) (s0 d0 : Node) (i k : ℕ) (l : Lane) (b : Bool) → i < length ls → place cs ds s0 d0 ≡ Some i
    → ((j : ℕ) → is_marked (get_or l j None) ≡ (if j == k then b else is_marked (get_or (get_or ls i []) j None)))
    → is_ready (with_lanes cs ds (set ls i l)) ≡ with_mark (is_ready (with_lanes cs ds ls)) s0 d0 k b
unfolding is_ready with_mark lane
ready-changed cs ds ls s0 d0 i k l b h at marks =
    λ t s d j. (ap (λ m. is_marked (get_or m j None)) (lane-set cs ds ls s0 d0 i l h at s d)
    ∙ by s d j (node_eq s s0) refl (node_eq d d0) refl) t
  where
    by : (s d : Node) (j : ℕ) (p : Bool) → node_eq s s0 ≡ p → (q : Bool) → node_eq d d0 ≡ q
        → is_marked (get_or (if p && q then l else lane_at ls (place cs ds s d)) j None)
        ≡ (if p && (q && j == k) then b else is_marked (get_or (lane_at ls (place cs ds s d)) j None))
    by s d j true e true f =
        marks j ∙ ap (λ m. if j == k then b else is_marked (get_or m j None)) (sym (same-lane cs ds ls s0 d0 s d i at (λ t. e t && f t)))
    by s d j true e false f = refl
    by s d j false e q f = refl
