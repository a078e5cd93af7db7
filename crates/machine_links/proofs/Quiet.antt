-- Lanes on which nothing was sent, and lanes on which nothing is in flight.
use Rattle.std.proofs.Common.{◌≡◌, ℕ, suc, zero, ◌+◌, ◌*◌, ◌≤◌, false, List, [], ◌∷◌, map, length, get_or, replicate, Option, Some, None}
use Rattle.std.proofs.Common.{refl, ap, sym, subst, ◌∙◌, ⊎_elim, arith}
use Rattle.std.specs.List.{count_by, sum_by, All}
use Rattle.std.proofs.lemmas.Bool.{cases_lt}
use Rattle.std.proofs.lemmas.List.{length-replicate, get_or_past}
use Rattle.std.proofs.lemmas.List.Sums.{sum_by-cons, get_or-le-sum_by, sum_by-le}
use Rattle.std.proofs.lemmas.List.Elements.{All-from_get_or}
use Rattle.rules_maps.specs.Words.{num}
use Rattle.rules_maps.specs.Nodes.{Node}
use Rattle.rules_tcc.specs.Links.{in_flight}
use Rattle.machine_links.specs.declared.lane.Held.{Held}
use Rattle.machine_links.specs.Lane.{Lane, message, is_marked, is_waiting}
use Rattle.machine_links.specs.Places.{place, src_at, dst_at}
use Rattle.machine_links.specs.Flights.{lane_at, lane, net_of, is_ready}
use Rattle.machine_links.proofs.Lanes.{Laned, lane-at, in-flight}
use Rattle.machine_links.proofs.Counts.{Counted}
use Rattle.machine_links.proofs.Flown.{with_lanes}

abbrev pub blank : ℕ → List Lane
blank n = replicate n []

blank-get : (n i : ℕ) → get_or (blank n) i [] ≡ []
blank-get zero i = refl
blank-get (suc n) zero = refl
blank-get (suc n) (suc i) = blank-get n i

blank-counts : (n : ℕ) → replicate n 0 ≡ map (count_by is_marked) (blank n)
blank-counts zero = refl
blank-counts (suc n) = ap (λ xs. 0 ∷ xs) (blank-counts n)

blank-sum : (n : ℕ) → 0 ≡ sum_by (count_by is_waiting) (blank n)
blank-sum zero = refl
blank-sum (suc n) = let a : sum_by (count_by is_waiting) (blank (suc n)) ≡ 0 + sum_by (count_by is_waiting) (blank n) =
    sum_by-cons (count_by is_waiting) [] (blank n) in omega (arith, blank-sum n)

pub blank-laned : (cs ds n : ℕ) → n ≡ (cs + ds + 1) * (cs + ds + 1) → Laned cs ds (blank n)
blank-laned cs ds n e = record { all = length-replicate n [] ∙ e; unlinked = λ i off. blank-get n i }

pub blank-counted : (n : ℕ) → Counted (blank n) (replicate n 0) 0
blank-counted n = record { counted = blank-counts n; flying = blank-sum n }

blank-lane : (n : ℕ) (o : Option ℕ) → lane_at (blank n) o ≡ []
blank-lane n None = refl
blank-lane n (Some i) = blank-get n i

pub blank-net : (cs ds n : ℕ) → net_of (with_lanes cs ds (blank n)) ≡ (λ s d. [])
unfolding net_of lane
blank-net cs ds n = λ t s d. ap (map message) (blank-lane n (place cs ds s d)) t

pub blank-ready : (cs ds n : ℕ) → is_ready (with_lanes cs ds (blank n)) ≡ (λ s d k. false)
unfolding is_ready lane is_marked
blank-ready cs ds n = λ t s d k. ap (λ l. is_marked (get_or l k None)) (blank-lane n (place cs ds s d)) t

-- nothing waits where the count is 0, and the count is 0 where nothing waits
gone : (o : Option Held) → num (is_waiting o) ≤ 0 → message o ≡ None
unfolding is_waiting message
gone None h = refl
gone (Some x) h = absurd (omega arith)

stays-none : (o : Option Held) → message o ≡ None → num (is_waiting o) ≤ 0
unfolding is_waiting message
stays-none None e = omega arith
stays-none (Some x) e = absurd (cc)

none-waiting : (l : Lane) (k : ℕ) → count_by is_waiting l ≤ 0 → message (get_or l k None) ≡ None
unfolding message
none-waiting l k h =
    ⊎_elim (λ lt. let a : num (is_waiting (get_or l k None)) ≤ count_by is_waiting l =
    get_or-le-sum_by (λ x. num (is_waiting x)) l k None lt in gone (get_or l k None) (omega arith))
    (λ le. ap message (get_or_past l k None le))
    (cases_lt k (length l))

all-gone : (l : Lane) → ((k : ℕ) → message (get_or l k None) ≡ None) → count_by is_waiting l ≤ 0
all-gone l h =
    let all : All (λ x. num (is_waiting x) ≤ 0) l =
    All-from_get_or (λ x. num (is_waiting x) ≤ 0) l None (λ i lt. stays-none (get_or l i None) (h i)) in
    omega (arith, sum_by-le (λ x. num (is_waiting x)) 0 l all)

lane-count : (ls : List Lane) (o : Option ℕ) → sum_by (count_by is_waiting) ls ≡ 0 → count_by is_waiting (lane_at ls o) ≤ 0
lane-count ls None e = omega arith
lane-count ls (Some i) e =
    ⊎_elim (λ lt. let a : count_by is_waiting (get_or ls i []) ≤ sum_by (count_by is_waiting) ls =
    get_or-le-sum_by (count_by is_waiting) ls i [] lt in omega arith)
    (λ le. subst (λ l. count_by is_waiting l ≤ 0) (sym (get_or_past ls i [] le)) (omega arith))
    (cases_lt i (length ls))

pub quiet : (cs ds : ℕ) (ls : List Lane) → sum_by (count_by is_waiting) ls ≡ 0 → (s d : Node) (k : ℕ)
    → in_flight (net_of (with_lanes cs ds ls)) s d k ≡ None
unfolding lane
quiet cs ds ls e s d k = in-flight (with_lanes cs ds ls) s d k
    ∙ none-waiting (lane_at ls (place cs ds s d)) k (lane-count ls (place cs ds s d) e)

pub quiet-count : (cs ds : ℕ) (ls : List Lane) → Laned cs ds ls
    → ((s d : Node) (k : ℕ) → in_flight (net_of (with_lanes cs ds ls)) s d k ≡ None) → sum_by (count_by is_waiting) ls ≡ 0
unfolding lane
quiet-count cs ds ls laned h =
    let all : All (λ l. count_by is_waiting l ≤ 0) ls =
    All-from_get_or (λ l. count_by is_waiting l ≤ 0) ls [] (λ i lt. all-gone (get_or ls i []) (λ k.
    ap (λ l. message (get_or l k None)) (sym (lane-at cs ds ls i laned lt))
    ∙ (sym (in-flight (with_lanes cs ds ls) (src_at cs ds i) (dst_at cs ds i) k) ∙ h (src_at cs ds i) (dst_at cs ds i) k))) in
    omega (arith, sum_by-le (count_by is_waiting) 0 ls all)
