-- How many messages of a lane are marked and in flight, after one of them has changed, and the sums over all lanes.
use Rattle.std.proofs.Common.{◌≡◌, ℕ, suc, zero, ◌+◌, ◌<◌, ◌≤◌, Bool, List, [], ◌∷◌, ◌++◌, map, length, get_or, set, Option, Some, None}
use Rattle.std.proofs.Common.{ap, sym, ◌∙◌, true, false, arith}
use Rattle.std.specs.Prelude.{sum}
use Rattle.std.specs.List.{count_by, sum_by}
use Rattle.std.proofs.lemmas.List.{map-set, get_or-map}
use Rattle.std.proofs.lemmas.List.Sums.{sum_by-set, sum_by_push, sum_by-le-sum_by, sum-map, get_or-le-sum_by}
use Rattle.rules_maps.specs.Words.{num}
use Rattle.machine_links.specs.declared.lane.Held.{Held}
use Rattle.machine_links.specs.Lane.{Lane, is_marked, is_waiting, marked_as}

-- a message of that number was sent
pub within : (l : Lane) (k : ℕ) (h : Held) → get_or l k None ≡ Some h → k < length l
within [] k h e = absurd (cc)
within (x ∷ xs) zero h e = omega arith
within (x ∷ xs) (suc k) h e = let r : k < length xs = within xs k h e in omega arith

pub take-waiting : (l : Lane) (k : ℕ) (h : Held) → get_or l k None ≡ Some h → count_by is_waiting (set l k None) + 1 ≡ count_by is_waiting l
unfolding is_waiting
take-waiting l k h e =
    let a : count_by is_waiting (set l k None) + num (is_waiting (get_or l k None)) ≡ count_by is_waiting l + 0 =
    sum_by-set (λ x. num (is_waiting x)) l k None None (within l k h e) in
    let b : num (is_waiting (get_or l k None)) ≡ 1 = ap (λ o. num (is_waiting o)) e in omega arith

pub take-marked : (l : Lane) (k : ℕ) (h : Held) → get_or l k None ≡ Some h
    → count_by is_marked (set l k None) + num h.ready ≡ count_by is_marked l
unfolding is_marked
take-marked l k h e =
    let a : count_by is_marked (set l k None) + num (is_marked (get_or l k None)) ≡ count_by is_marked l + 0 =
    sum_by-set (λ x. num (is_marked x)) l k None None (within l k h e) in
    let b : num (is_marked (get_or l k None)) ≡ num h.ready = ap (λ o. num (is_marked o)) e in omega arith

pub mark-waiting : (l : Lane) (k : ℕ) (b : Bool) (h : Held) → get_or l k None ≡ Some h
    → count_by is_waiting (set l k (marked_as b (get_or l k None))) ≡ count_by is_waiting l
unfolding is_waiting marked_as
mark-waiting l k b h e =
    let v = marked_as b (get_or l k None) in
    let a : count_by is_waiting (set l k v) + num (is_waiting (get_or l k None)) ≡ count_by is_waiting l + num (is_waiting v) =
    sum_by-set (λ x. num (is_waiting x)) l k v None (within l k h e) in
    let p : num (is_waiting (get_or l k None)) ≡ 1 = ap (λ o. num (is_waiting o)) e in
    let q : num (is_waiting v) ≡ 1 = ap (λ o. num (is_waiting (marked_as b o))) e in omega arith

pub mark-marked : (l : Lane) (k : ℕ) (b : Bool) (h : Held) → get_or l k None ≡ Some h
    → count_by is_marked (set l k (marked_as b (get_or l k None))) + num h.ready ≡ count_by is_marked l + num b
unfolding is_marked marked_as
mark-marked l k b h e =
    let v = marked_as b (get_or l k None) in
    let a : count_by is_marked (set l k v) + num (is_marked (get_or l k None)) ≡ count_by is_marked l + num (is_marked v) =
    sum_by-set (λ x. num (is_marked x)) l k v None (within l k h e) in
    let p : num (is_marked (get_or l k None)) ≡ num h.ready = ap (λ o. num (is_marked o)) e in
    let q : num (is_marked v) ≡ num b = ap (λ o. num (is_marked (marked_as b o))) e in omega arith

pub push-waiting : (l : Lane) (h : Held) → count_by is_waiting (l ++ Some h ∷ []) ≡ count_by is_waiting l + 1
unfolding is_waiting
push-waiting l h = sum_by_push (λ x. num (is_waiting x)) l (Some h)

pub push-marked : (l : Lane) (h : Held) → count_by is_marked (l ++ Some h ∷ []) ≡ count_by is_marked l + num h.ready
unfolding is_marked
push-marked l h = sum_by_push (λ x. num (is_marked x)) l (Some h)

-- what is counted by place and all together
pub record Counted (ls : List Lane) (tree : List ℕ) (fl : ℕ) : Type 0 where
  pub counted : tree ≡ map (count_by is_marked) ls
  pub flying : fl ≡ sum_by (count_by is_waiting) ls

pub counted-at : (ls : List Lane) (tree : List ℕ) (fl i : ℕ) → Counted ls tree fl → i < length ls
    → get_or tree i 0 ≡ count_by is_marked (get_or ls i [])
counted-at ls tree fl i c h = ap (λ t. get_or t i 0) c.counted ∙ get_or-map (count_by is_marked) ls i [] 0 h

pub flying-at : (ls : List Lane) (tree : List ℕ) (fl i : ℕ) → Counted ls tree fl → i < length ls → count_by is_waiting (get_or ls i []) ≤ fl
flying-at ls tree fl i c h = let a : count_by is_waiting (get_or ls i []) ≤ sum_by (count_by is_waiting) ls =
    get_or-le-sum_by (count_by is_waiting) ls i [] h in omega (arith, c.flying)

-- only what is in flight is marked
marked-waiting : (x : Option Held) → num (is_marked x) ≤ num (is_waiting x)
unfolding is_marked is_waiting
marked-waiting None = omega arith
marked-waiting (Some h) = most h.ready
  where
    most : (b : Bool) → num b ≤ 1
    most true = omega arith
    most false = omega arith

pub marked-most : (ls : List Lane) (tree : List ℕ) (fl : ℕ) → Counted ls tree fl → sum tree ≤ fl
marked-most ls tree fl c =
    let a : sum_by (count_by is_marked) ls ≤ sum_by (count_by is_waiting) ls =
    sum_by-le-sum_by (count_by is_marked) (count_by is_waiting) ls
    (λ l. sum_by-le-sum_by (λ x. num (is_marked x)) (λ x. num (is_waiting x)) l marked-waiting) in
    let b : sum tree ≡ sum_by (count_by is_marked) ls = ap sum c.counted ∙ sum-map (count_by is_marked) ls in
    omega (arith, a, b, c.flying)

-- a lane with another count
pub counted-set : (ls : List Lane) (tree : List ℕ) (fl new i n : ℕ) (l : Lane) → Counted ls tree fl → i < length ls
    → n ≡ count_by is_marked l
    → new + count_by is_waiting (get_or ls i []) ≡ fl + count_by is_waiting l → Counted (set ls i l) (set tree i n) new
counted-set ls tree fl new i n l c h e f =
    let a : sum_by (count_by is_waiting) (set ls i l) + count_by is_waiting (get_or ls i [])
    ≡ sum_by (count_by is_waiting) ls + count_by is_waiting l = sum_by-set (count_by is_waiting) ls i l [] h in
    record {
      counted = (λ t. set (c.counted t) i (e t)) ∙ sym (map-set (count_by is_marked) ls i l);
      flying = omega (arith, c.flying);
    }
