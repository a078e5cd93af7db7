-- A link on which more messages count as sent: none of the new ones is in flight, and so nothing is marked or counted anew.
use Rattle.std.proofs.Common.{◌≡◌, ℕ, suc, zero, ◌+◌, ◌-◌, ◌*◌, ◌<◌, ◌≤◌, Bool, true, false, ◌&&◌, if◌then◌else◌, List, [], ◌∷◌, ◌++◌}
use Rattle.std.proofs.Common.{map, length, get_or, set, replicate, Some, None, Option, refl, ap, sym, subst, ◌∙◌, append-nil}
use Rattle.std.proofs.Common.{length-append, arith}
use Rattle.std.specs.List.{count_by}
use Rattle.std.proofs.lemmas.List.{length-map, map-append, append_assoc, length-replicate, replicate_more, set-get_or}
use Rattle.std.proofs.lemmas.List.Folds.{sum_by-replicate}
use Rattle.std.proofs.lemmas.List.Sums.{sum_by-append}
use Rattle.rules_maps.specs.Words.{num}
use Rattle.rules_maps.specs.Nodes.{Node, node_eq}
use Rattle.rules_tcc.specs.Links.{in_flight}
use Rattle.rules_tcc.specs.State.{Link}
use Rattle.machine_links.specs.declared.lane.Waiting.{Waiting}
use Rattle.machine_links.specs.Flights.{lane_at, lane, net_of, is_ready, AllListed}
use Rattle.machine_links.specs.Laid.{laid, held_at, Rises}
use Rattle.machine_links.specs.Lane.{Lane, message, is_marked, is_waiting}
use Rattle.machine_links.specs.Passed.{passed, passed_to}
use Rattle.machine_links.specs.Places.{place}
use Rattle.machine_links.specs.Subject.{Index}
use Rattle.machine_links.proofs.Changing.{Kept}
use Rattle.machine_links.proofs.Counts.{Counted, counted-at, counted-set}
use Rattle.machine_links.proofs.Finding.{held-high}
use Rattle.machine_links.proofs.Flown.{with_lanes, same-lane}
use Rattle.machine_links.proofs.Laid.{length-laid}
use Rattle.machine_links.proofs.Lanes.{laned-set, lane-set}
use Rattle.machine_links.proofs.Taking.{Stands, below}

-- behind n the function has one value
laid-past : {A : Type 0} (f : ℕ → A) (v : A) (n m q : ℕ) → ((k : ℕ) → n ≤ k → f k ≡ v) → q ≡ n + m → laid f q ≡ laid f n ++ replicate m v
unfolding laid
laid-past f v n zero q h e = let same : q ≡ n = omega arith in ap (laid f) same ∙ sym (append-nil (laid f n))
laid-past f v n (suc m) zero h e = absurd (omega arith)
laid-past f v n (suc m) (suc q) h e =
    let one : m + 1 ≡ suc m = omega arith in
    (λ i. laid-past f v n m q h (omega arith) i ++ h q (omega arith) i ∷ [])
    ∙ (append_assoc (laid f n) (replicate m v) (v ∷ [])
    ∙ ap (λ xs. laid f n ++ xs) (replicate_more m v ∙ ap (λ j. replicate j v) one))

rises-higher : (low high higher : ℕ) (ws : List Waiting) → high ≤ higher → Rises low high ws → Rises low higher ws
rises-higher low high higher [] h r = omega arith
rises-higher low high higher (w ∷ ws) h r = (r.0, rises-higher (suc w.seq) high higher ws h r.1)

-- the fields of such a link
pub passed-kept : (n m : ℕ) (ws : List Waiting) (l : Lane) → Kept n ws l → n ≤ m → Kept m ws (passed m l)
passed-kept n m ws l kept h =
    let count : length l ≡ n = ap length (sym kept.view) ∙ length-laid (held_at ws) n in
    record {
      rising = rises-higher 0 n m ws h kept.rising;
      few = kept.few;
      view = laid-past (held_at ws) None n (m - length l) m (λ k le. held-high 0 n ws k kept.rising le) (omega arith)
          ∙ ap (λ xs. xs ++ replicate (m - length l) None) kept.view;
    }

-- a link on which as many were sent is as before
pub passed-none : {A : Type 0} (n : ℕ) (l : List (Option A)) → n ≤ length l → l ≡ passed n l
passed-none n l h =
    let none : n - length l ≡ 0 = omega arith in
    sym (append-nil l) ∙ ap (λ m. l ++ replicate m None) (sym none)

-- and else one on which that many were sent
pub length-passed : {A : Type 0} (n : ℕ) (l : List (Option A)) → length l ≤ n → length (passed n l) ≡ n
length-passed {A} n l h = length-append l (replicate (n - length l) None) ∙ added (n - length l) (omega arith)
  where
    added : (m : ℕ) → length l + m ≡ n → length l + length (replicate {A = Option A} m None) ≡ n
    added m e = omega (arith, e, length-replicate {A = Option A} m None)

-- what is found by number
get-replicate : {A : Type 0} (m k : ℕ) → get_or {A = Option A} (replicate m None) k None ≡ None
get-replicate zero k = refl
get-replicate (suc m) zero = refl
get-replicate (suc m) (suc k) = get-replicate m k

pub get-passed : {A : Type 0} (l : List (Option A)) (m k : ℕ) → get_or (l ++ replicate m None) k None ≡ get_or l k None
get-passed [] m k = get-replicate m k
get-passed (x ∷ xs) m zero = refl
get-passed (x ∷ xs) m (suc k) = get-passed xs m k

-- the messages
map-none : (m : ℕ) → map message (replicate m None) ≡ replicate m None
unfolding message
map-none zero = refl
map-none (suc m) = ap (λ xs. None ∷ xs) (map-none m)

message-passed : (n : ℕ) (l : Lane) → map message (passed n l) ≡ passed n (map message l)
message-passed n l =
    map-append message l (replicate (n - length l) None)
    ∙ (ap (λ xs. map message l ++ xs) (map-none (n - length l))
    ∙ ap (λ k. map message l ++ replicate (n - k) None) (sym (length-map l message)))

-- the counts
marked-passed : (n : ℕ) (l : Lane) → count_by is_marked (passed n l) ≡ count_by is_marked l
unfolding is_marked
marked-passed n l =
    let a : count_by is_marked (passed n l) ≡ count_by is_marked l + count_by is_marked (replicate (n - length l) None) =
    sum_by-append (λ x. num (is_marked x)) l (replicate (n - length l) None) in
    let b : count_by is_marked (replicate (n - length l) None) ≡ (n - length l) * 0 =
    sum_by-replicate (λ x. num (is_marked x)) (n - length l) None in omega arith

waiting-passed : (n : ℕ) (l : Lane) → count_by is_waiting (passed n l) ≡ count_by is_waiting l
unfolding is_waiting
waiting-passed n l =
    let a : count_by is_waiting (passed n l) ≡ count_by is_waiting l + count_by is_waiting (replicate (n - length l) None) =
    sum_by-append (λ x. num (is_waiting x)) l (replicate (n - length l) None) in
    let b : count_by is_waiting (replicate (n - length l) None) ≡ (n - length l) * 0 =
    sum_by-replicate (λ x. num (is_waiting x)) (n - length l) None in omega arith

pub passed-stands : (cs ds : ℕ) (ls : List Lane) (tree : List ℕ) (fl : ℕ) (s d : Node) (i n : ℕ) (l : Lane) → Stands cs ds ls tree fl
    → place cs ds s d ≡ Some i → l ≡ get_or ls i [] → Stands cs ds (set ls i (passed n l)) tree fl
passed-stands cs ds ls tree fl s d i n l stands at e =
    let w : i < length ls = below cs ds ls tree fl s d i stands at in
    record {
      laned = laned-set cs ds ls s d i (passed n l) stands.laned at;
      counted = subst (λ t. Counted (set ls i (passed n l)) t fl) (set-get_or tree i 0)
          (counted-set ls tree fl fl i (get_or tree i 0) (passed n l) stands.counted w
          (counted-at ls tree fl i stands.counted w ∙ sym (marked-passed n l ∙ ap (count_by is_marked) e))
          (ap (λ k. fl + k) (sym (waiting-passed n l ∙ ap (count_by is_waiting) e))));
    }

-- the links and the marks
pub passed-net : (cs ds : ℕ) (ls : List Lane) (tree : List ℕ) (fl : ℕ) (s d : Node) (i n : ℕ) (l : Lane) → Stands cs ds ls tree fl
    → place cs ds s d ≡ Some i → l ≡ get_or ls i []
    → net_of (with_lanes cs ds (set ls i (passed n l))) ≡ passed_to (net_of (with_lanes cs ds ls)) s d n
unfolding net_of lane passed_to
passed-net cs ds ls tree fl s0 d0 i n l stands at same =
    λ t s d. (ap (map message) (lane-set cs ds ls s0 d0 i (passed n l) (below cs ds ls tree fl s0 d0 i stands at) at s d)
    ∙ by s d (node_eq s s0 && node_eq d d0) refl) t
  where
    by : (s d : Node) (b : Bool) → (node_eq s s0 && node_eq d d0) ≡ b
        → map message (if b then passed n l else lane_at ls (place cs ds s d))
        ≡ (if b then passed n (map message (lane_at ls (place cs ds s d))) else map message (lane_at ls (place cs ds s d)))
    by s d true e =
        message-passed n l ∙ ap (λ m. passed n (map message m)) (same ∙ sym (same-lane cs ds ls s0 d0 s d i at e))
    by s d false e = refl

pub passed-ready : (cs ds : ℕ) (ls : List Lane) (tree : List ℕ) (fl : ℕ) (s d : Node) (i n : ℕ) (l : Lane) → Stands cs ds ls tree fl
    → place cs ds s d ≡ Some i → l ≡ get_or ls i []
    → is_ready (with_lanes cs ds (set ls i (passed n l))) ≡ is_ready (with_lanes cs ds ls)
unfolding is_ready lane
passed-ready cs ds ls tree fl s0 d0 i n l stands at same =
    λ t s d k. (ap (λ m. is_marked (get_or m k None))
    (lane-set cs ds ls s0 d0 i (passed n l) (below cs ds ls tree fl s0 d0 i stands at) at s d)
    ∙ by s d k (node_eq s s0 && node_eq d d0) refl) t
  where
    by : (s d : Node) (k : ℕ) (b : Bool) → (node_eq s s0 && node_eq d d0) ≡ b
        → is_marked (get_or (if b then passed n l else lane_at ls (place cs ds s d)) k None)
        ≡ is_marked (get_or (lane_at ls (place cs ds s d)) k None)
    by s d k true e =
        ap is_marked (get-passed l (n - length l) k)
        ∙ ap (λ m. is_marked (get_or m k None)) (same ∙ sym (same-lane cs ds ls s0 d0 s d i at e))
    by s d k false e = refl

-- what is in flight, and so what is listed, is as before
pub passed-flight : (net : Node → Node → Link) (s d : Node) (n : ℕ) (t e : Node) (k : ℕ)
    → in_flight (passed_to net s d n) t e k ≡ in_flight net t e k
unfolding passed_to
passed-flight net s d n t e k = by (node_eq t s && node_eq e d)
  where
    by : (b : Bool) → get_or (if b then passed n (net t e) else net t e) k None ≡ get_or (net t e) k None
    by true = get-passed (net t e) (n - length (net t e)) k
    by false = refl

pub passed-listed : (net : Node → Node → Link) (s d : Node) (n : ℕ) (x : Index) → AllListed net x → AllListed (passed_to net s d n) x
unfolding AllListed
passed-listed net s d n x all = λ c e k m f fly. all c e k m f (sym (passed-flight net s d n _ _ k) ∙ fly)
