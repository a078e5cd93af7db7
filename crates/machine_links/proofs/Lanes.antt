-- The lanes of all pairs of nodes: which lane a link has, and what a change of one lane does to links, marks and counts.
use Rattle.std.proofs.Common.{◌≡◌, ℕ, suc, zero, ◌+◌, ◌*◌, ◌<◌, ◌≢◌, ◌==◌, Bool, true, false, ◌&&◌, if◌then◌else◌, ⊎_elim, List, [], ◌∷◌}
use Rattle.std.proofs.Common.{map, length, get_or, set, Option, Some, None, IsSome, refl, ap, sym, ◌∙◌, arith}
use Rattle.std.proofs.lemmas.Bool.{cases_eq, cases_lt, cases_Bool, and_parts, false≢true, eq-eqb, ne_eqb}
use Rattle.std.proofs.lemmas.List.{get_or-set_same, get_or-set_other, set-get_or, set_past, get_or_past, length-set, map-set}
use Rattle.base_lemmas.proofs.Lemmas.{node_eq-refl}
use Rattle.rules_maps.specs.Nodes.{Node, node_eq}
use Rattle.rules_tcc.specs.Links.{in_flight}
use Rattle.rules_tcc.proofs.Lemmas.{node_eq-eq}
use Rattle.machine_links.specs.declared.lane.Held.{Held}
use Rattle.machine_links.specs.Lane.{Lane, message, is_marked, marked_as}
use Rattle.machine_links.specs.Places.{is_link, place, src_at, dst_at}
use Rattle.machine_links.specs.Flights.{Flights, lane_at, lane, net_of}
use Rattle.machine_links.proofs.Placing.{placed, place-none, place-at}

-- what always holds of the lanes
pub record Laned (cs ds : ℕ) (ls : List Lane) : Type 0 where
  pub all : length ls ≡ (cs + ds + 1) * (cs + ds + 1)
  pub unlinked : (i : ℕ) → is_link cs ds (src_at cs ds i) (dst_at cs ds i) ≡ false → get_or ls i [] ≡ []

-- the lane at a place is that of its link
pub lane-at : (cs ds : ℕ) (ls : List Lane) (i : ℕ) → Laned cs ds ls → i < length ls
    → lane_at ls (place cs ds (src_at cs ds i) (dst_at cs ds i)) ≡ get_or ls i []
lane-at cs ds ls i laned h =
    ⊎_elim
    (λ yes. let below : i < (cs + ds + 1) * (cs + ds + 1) = omega (arith, laned.all) in ap (lane_at ls) (place-at cs ds i below yes))
    (λ off. ap (lane_at ls) (place-none cs ds (src_at cs ds i) (dst_at cs ds i) off) ∙ sym (laned.unlinked i off))
    (cases_Bool (is_link cs ds (src_at cs ds i) (dst_at cs ds i)))

-- one lane changed
pub laned-set : (cs ds : ℕ) (ls : List Lane) (s d : Node) (i : ℕ) (l : Lane) → Laned cs ds ls → place cs ds s d ≡ Some i
    → Laned cs ds (set ls i l)
laned-set cs ds ls s d i l laned at = record {
  all = length-set ls i l ∙ laned.all;
  unlinked = λ j off. get_or-set_other ls i j l [] (other j off) ∙ laned.unlinked j off;
}
  where
    other : (j : ℕ) → is_link cs ds (src_at cs ds j) (dst_at cs ds j) ≡ false → j ≢ i
    other j off e =
        let p = placed cs ds s d i at in
        let a : is_link cs ds (src_at cs ds i) (dst_at cs ds i) ≡ true = (λ t. is_link cs ds (p.src t) (p.dst t)) ∙ p.link in
        false≢true (sym off ∙ (ap (λ k. is_link cs ds (src_at cs ds k) (dst_at cs ds k)) e ∙ a))

pub lane-set : (cs ds : ℕ) (ls : List Lane) (s0 d0 : Node) (i : ℕ) (l : Lane) → i < length ls → place cs ds s0 d0 ≡ Some i
    → (s d : Node) → lane_at (set ls i l) (place cs ds s d) ≡ (if node_eq s s0 && node_eq d d0 then l else lane_at ls (place cs ds s d))
lane-set cs ds ls s0 d0 i l h at s d = by (node_eq s s0 && node_eq d d0) refl
  where
    apart : (j : ℕ) → place cs ds s d ≡ Some j → (node_eq s s0 && node_eq d d0) ≡ false → j ≢ i
    apart j other off e =
        let p = placed cs ds s0 d0 i at in
        let q = placed cs ds s d j other in
        let a : s ≡ s0 = sym q.src ∙ (ap (src_at cs ds) e ∙ p.src) in
        let b : d ≡ d0 = sym q.dst ∙ (ap (dst_at cs ds) e ∙ p.dst) in
        let c : (node_eq s s0 && node_eq d d0) ≡ true = (λ t. node_eq (a t) s0 && node_eq (b t) d0)
        ∙ (λ t. node_eq-refl s0 t && node_eq-refl d0 t) in
        false≢true (sym off ∙ c)

    stays : (o : Option ℕ) → place cs ds s d ≡ o → (node_eq s s0 && node_eq d d0) ≡ false → lane_at (set ls i l) o ≡ lane_at ls o
    stays None e off = refl
    stays (Some j) e off = get_or-set_other ls i j l [] (apart j e off)

    by : (b : Bool) → (node_eq s s0 && node_eq d d0) ≡ b
        → lane_at (set ls i l) (place cs ds s d) ≡ (if b then l else lane_at ls (place cs ds s d))
    by true e =
        let t = and_parts (node_eq s s0) (node_eq d d0) e in
        let a : place cs ds s d ≡ Some i = (λ k. place cs ds (node_eq-eq s s0 t.0 k) (node_eq-eq d d0 t.1 k)) ∙ at in
        ap (lane_at (set ls i l)) a ∙ get_or-set_same ls i l [] h
    by false e = stays (place cs ds s d) refl e

-- messages and marks of one lane
pub get-message : (l : Lane) (k : ℕ) → get_or (map message l) k None ≡ message (get_or l k None)
unfolding message
get-message [] k = refl
get-message (x ∷ xs) zero = refl
get-message (x ∷ xs) (suc k) = get-message xs k

pub in-flight : (f : Flights) (s d : Node) (k : ℕ) → in_flight (net_of f) s d k ≡ message (get_or (lane f s d) k None)
unfolding net_of
in-flight f s d k = get-message (lane f s d) k

pub take-message : (l : Lane) (k : ℕ) → map message (set l k None) ≡ set (map message l) k None
unfolding message
take-message l k = map-set message l k None

marked-message : (o : Option Held) (b : Bool) → message (marked_as b o) ≡ message o
unfolding message marked_as
marked-message None b = refl
marked-message (Some h) b = refl

pub mark-message : (l : Lane) (k : ℕ) (b : Bool) → map message (set l k (marked_as b (get_or l k None))) ≡ map message l
mark-message l k b =
    map-set message l k (marked_as b (get_or l k None))
    ∙ (ap (λ m. set (map message l) k m) (marked-message (get_or l k None) b ∙ sym (get-message l k)) ∙ set-get_or (map message l) k None)

pub mark-of : (o : Option Held) (b : Bool) → IsSome o → is_marked (marked_as b o) ≡ b
unfolding is_marked marked_as
mark-of None b h = absurd (false≢true h)
mark-of (Some h) b some = refl

pub mark-set : (l : Lane) (k j : ℕ) (v : Option Held) → k < length l
    → is_marked (get_or (set l k v) j None) ≡ (if j == k then is_marked v else is_marked (get_or l j None))
mark-set l k j v h =
    ⊎_elim (λ e. rw (eq-eqb j k e) (ap (λ i. is_marked (get_or (set l k v) i None)) e ∙ ap is_marked (get_or-set_same l k v None h)))
    (λ ne. rw (ne_eqb j k ne) (ap is_marked (get_or-set_other l k j v None ne)))
    (cases_eq j k)

pub take-mark : (l : Lane) (k j : ℕ) → is_marked (get_or (set l k None) j None) ≡ (if j == k then false else is_marked (get_or l j None))
unfolding is_marked
take-mark l k j =
    ⊎_elim (λ lt. mark-set l k j None lt)
    (λ le. ⊎_elim
    (λ e. rw (eq-eqb j k e)
    (ap (λ m. is_marked (get_or m j None)) (set_past l k None le) ∙ ap is_marked (get_or_past l j None (omega arith))))
    (λ ne. rw (ne_eqb j k ne) (ap (λ m. is_marked (get_or m j None)) (set_past l k None le)))
    (cases_eq j k))
    (cases_lt k (length l))
