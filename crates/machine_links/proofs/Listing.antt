-- The list of marked messages: by place among all pairs of nodes, and the message that a number falls on.
use Rattle.std.proofs.Common.{◌≡◌, ℕ, suc, zero, ◌+◌, ◌-◌, ◌*◌, ◌/◌, ◌%◌, ◌<◌, ◌≤◌, List, [], ◌∷◌, ◌++◌, map, length, get_or, take, Option}
use Rattle.std.proofs.Common.{None, refl, ap, sym, ◌∙◌, append_assoc, append-nil, length-append, arith}
use Rattle.std.specs.Prelude.{slice_get, sum, option_map}
use Rattle.std.specs.List.{flat_map, count_by}
use Rattle.std.proofs.lemmas.Bool.{lt-ltb, le-ltb}
use Rattle.std.proofs.lemmas.List.{map-append, length-map, take_more, take_all}
use Rattle.std.proofs.lemmas.List.Concat.{flat_map-append}
use Rattle.std.proofs.lemmas.List.Sums.{sum_by_push}
use Rattle.std.proofs.lemmas.Option.{slice_get_past, slice_get-map}
use Rattle.std.proofs.lemmas.Nat.{div-mul-add, mod-mul-add}
use Rattle.base_lemmas.proofs.Lemmas.{get-after, get-front, map-map}
use Rattle.rules_maps.specs.Words.{those}
use Rattle.rules_maps.specs.Nodes.{Node, Core, Dir, Vendor, Event, Deliver}
use Rattle.rules_tcc.specs.Seen.{numbers}
use Rattle.machine_links.specs.Lane.{Lane, is_marked, numbers_of}
use Rattle.machine_links.specs.Places.{node_at, src_at, dst_at}
use Rattle.machine_links.specs.Flights.{Flights, lane, is_ready, nodes_of, ready_on, ready_list}
use Rattle.machine_links.proofs.Numbers.{length-numbers}
use Rattle.machine_links.proofs.Lanes.{Laned, lane-at}
use Rattle.machine_links.proofs.Counts.{counted-at}
use Rattle.machine_links.proofs.Flown.{with_lanes}
use Rattle.machine_links.proofs.Reading.{net-length}
use Rattle.machine_links.proofs.Taking.{Stands}

-- the numbers below a sum
numbers-suc : (n : ℕ) → numbers (suc n) ≡ numbers n ++ n ∷ []
unfolding those
numbers-suc n = refl

numbers-none : numbers 0 ≡ []
unfolding those
numbers-none = refl

numbers-add : (m n : ℕ) → numbers (m + n) ≡ numbers m ++ map (λ k. m + k) (numbers n)
numbers-add m zero = let z : m + 0 ≡ m = omega arith in ap (λ k. numbers k) z
    ∙ (sym (append-nil (numbers m)) ∙ ap (λ ks. numbers m ++ map (λ k. m + k) ks) (sym numbers-none))
numbers-add m (suc n) =
    let s : m + suc n ≡ suc (m + n) = omega arith in
    ap (λ k. numbers k) s
    ∙ (numbers-suc (m + n)
    ∙ (ap (λ ks. ks ++ (m + n) ∷ []) (numbers-add m n)
    ∙ (append_assoc (numbers m) (map (λ k. m + k) (numbers n)) ((m + n) ∷ [])
    ∙ ap (λ ks. numbers m ++ ks) (sym (ap (map (λ k. m + k)) (numbers-suc n) ∙ map-append (λ k. m + k) (numbers n) (n ∷ []))))))

-- lists made of them
map-same : {A : Type 0} (f g : ℕ → A) (n : ℕ) → ((k : ℕ) → k < n → f k ≡ g k) → map f (numbers n) ≡ map g (numbers n)
map-same f g zero h = ap (map f) numbers-none ∙ sym (ap (map g) numbers-none)
map-same f g (suc n) h =
    ap (map f) (numbers-suc n)
    ∙ (map-append f (numbers n) (n ∷ [])
    ∙ ((λ i. map-same f g n (λ k l. h k (omega arith)) i ++ h n (omega arith) i ∷ [])
    ∙ sym (ap (map g) (numbers-suc n) ∙ map-append g (numbers n) (n ∷ []))))

flat-map : {A B C : Type 0} (g : B → List C) (f : A → B) (xs : List A) → flat_map g (map f xs) ≡ flat_map (λ x. g (f x)) xs
flat-map g f [] = refl
flat-map g f (x ∷ xs) = ap (λ ys. g (f x) ++ ys) (flat-map g f xs)

flat-suc : {A : Type 0} (f : ℕ → List A) (n : ℕ) → flat_map f (numbers (suc n)) ≡ flat_map f (numbers n) ++ f n
flat-suc f n = ap (flat_map f) (numbers-suc n)
    ∙ (flat_map-append f (numbers n) (n ∷ []) ∙ ap (λ ys. flat_map f (numbers n) ++ ys) (append-nil (f n)))

flat-none : {A : Type 0} (f : ℕ → List A) → flat_map f (numbers 0) ≡ []
flat-none f = ap (flat_map f) numbers-none

flat-same : {A : Type 0} (f g : ℕ → List A) (n : ℕ) → ((k : ℕ) → k < n → f k ≡ g k) → flat_map f (numbers n) ≡ flat_map g (numbers n)
flat-same f g zero h = flat-none f ∙ sym (flat-none g)
flat-same f g (suc n) h = flat-suc f n ∙ ((λ i. flat-same f g n (λ k l. h k (omega arith)) i ++ h n (omega arith) i) ∙ sym (flat-suc g n))

-- by rows and columns
flat-rows : {A : Type 0} (g : ℕ → ℕ → List A) (m n : ℕ)
    → flat_map (λ a. flat_map (g a) (numbers m)) (numbers n) ≡ flat_map (λ i. g (i / m) (i % m)) (numbers (n * m))
flat-rows g m zero =
    let z : 0 * m ≡ 0 = omega arith in
    flat-none (λ a. flat_map (g a) (numbers m))
    ∙ sym (ap (λ k. flat_map (λ i. g (i / m) (i % m)) (numbers k)) z ∙ flat-none (λ i. g (i / m) (i % m)))
flat-rows g m (suc n) =
    let s : suc n * m ≡ n * m + m = omega arith in
    let h = λ (i : ℕ). g (i / m) (i % m) in
    let row : flat_map (g n) (numbers m) ≡ flat_map (λ k. h (n * m + k)) (numbers m) =
    flat-same (g n) (λ k. h (n * m + k)) m (λ k l i. g (sym (div-mul-add n m k l) i) (sym (mod-mul-add n m k l) i)) in
    flat-suc (λ a. flat_map (g a) (numbers m)) n
    ∙ ((λ i. flat-rows g m n i ++ row i)
    ∙ sym (ap (λ k. flat_map h (numbers k)) s
    ∙ (ap (flat_map h) (numbers-add (n * m) m)
    ∙ (flat_map-append h (numbers (n * m)) (map (λ k. n * m + k) (numbers m))
    ∙ ap (λ ys. flat_map h (numbers (n * m)) ++ ys) (flat-map h (λ k. n * m + k) (numbers m))))))

-- the nodes in their order
nodes-numbered : (cs ds : ℕ) (ls : List Lane) → nodes_of (with_lanes cs ds ls) ≡ map (node_at cs ds) (numbers (cs + ds + 1))
unfolding nodes_of
nodes-numbered cs ds ls =
    let s : cs + ds + 1 ≡ suc (cs + ds) = omega arith in
    let cores : map Core (numbers cs) ≡ map (node_at cs ds) (numbers cs) =
    map-same Core (node_at cs ds) cs (λ k l. rw (lt-ltb k cs l) refl) in
    let dirs : map Dir (numbers ds) ≡ map (node_at cs ds) (map (λ k. cs + k) (numbers ds)) =
    map-same Dir (λ k. node_at cs ds (cs + k)) ds (λ k l.
    let a : cs ≤ cs + k = omega arith in
    let b : cs + k < cs + ds = omega arith in
    let d : cs + k - cs ≡ k = omega arith in
    rw (le-ltb (cs + k) cs a, lt-ltb (cs + k) (cs + ds) b) (ap Dir (sym d)))
    ∙ sym (map-map (node_at cs ds) (λ k. cs + k) (numbers ds)) in
    let vendor : Vendor ∷ [] ≡ map (node_at cs ds) ((cs + ds) ∷ []) =
    let a : cs ≤ cs + ds = omega arith in
    let b : cs + ds ≤ cs + ds = omega arith in
    rw (le-ltb (cs + ds) cs a, le-ltb (cs + ds) (cs + ds) b) refl in
    (λ i. cores i ++ (dirs i ++ vendor i))
    ∙ sym (ap (λ k. map (node_at cs ds) (numbers k)) s
    ∙ (ap (map (node_at cs ds)) (numbers-suc (cs + ds) ∙ ap (λ ks. ks ++ (cs + ds) ∷ []) (numbers-add cs ds))
    ∙ (map-append (node_at cs ds) (numbers cs ++ map (λ k. cs + k) (numbers ds)) ((cs + ds) ∷ [])
    ∙ (ap (λ ks. ks ++ map (node_at cs ds) ((cs + ds) ∷ [])) (map-append (node_at cs ds) (numbers cs) (map (λ k. cs + k) (numbers ds)))
    ∙ append_assoc (map (node_at cs ds) (numbers cs)) (map (node_at cs ds) (map (λ k. cs + k) (numbers ds)))
    (map (node_at cs ds) ((cs + ds) ∷ []))))))

-- the deliveries by place
pub marked_at : ℕ → ℕ → List Lane → ℕ → List Event
marked_at cs ds ls i = map (Deliver (src_at cs ds i) (dst_at cs ds i)) (numbers_of is_marked (get_or ls i []))

ready-on : (f : Flights) (s d : Node) → ready_on f s d ≡ map (Deliver s d) (numbers_of is_marked (lane f s d))
unfolding ready_on is_ready numbers_of
ready-on f s d = ap (λ n. map (Deliver s d) (those (λ k. is_marked (get_or (lane f s d) k None)) n)) (net-length f s d)

pub ready-placed : (cs ds : ℕ) (ls : List Lane) → Laned cs ds ls
    → ready_list (with_lanes cs ds ls) ≡ flat_map (marked_at cs ds ls) (numbers (length ls))
unfolding ready_list marked_at lane
ready-placed cs ds ls laned =
    let f : Flights = with_lanes cs ds ls in
    let m : ℕ = cs + ds + 1 in
    let node : ℕ → Node = node_at cs ds in
    ap (λ ns. flat_map (λ src. flat_map (ready_on f src) ns) ns) (nodes-numbered cs ds ls)
    ∙ (flat-map (λ src. flat_map (ready_on f src) (map node (numbers m))) node (numbers m)
    ∙ (flat-same (λ a. flat_map (ready_on f (node a)) (map node (numbers m)))
    (λ a. flat_map (λ b. ready_on f (node a) (node b)) (numbers m)) m (λ a l. flat-map (ready_on f (node a)) node (numbers m))
    ∙ (flat-rows (λ a b. ready_on f (node a) (node b)) m m
    ∙ (ap (λ n. flat_map (λ i. ready_on f (src_at cs ds i) (dst_at cs ds i)) (numbers n)) (sym laned.all)
    ∙ flat-same (λ i. ready_on f (src_at cs ds i) (dst_at cs ds i)) (marked_at cs ds ls) (length ls)
    (λ i l. ready-on f (src_at cs ds i) (dst_at cs ds i)
    ∙ ap (λ x. map (Deliver (src_at cs ds i) (dst_at cs ds i)) (numbers_of is_marked x)) (lane-at cs ds ls i laned l))))))

length-marked : (cs ds : ℕ) (ls : List Lane) (i : ℕ) → length (marked_at cs ds ls i) ≡ count_by is_marked (get_or ls i [])
unfolding marked_at
length-marked cs ds ls i = length-map (numbers_of is_marked (get_or ls i [])) (Deliver (src_at cs ds i) (dst_at cs ds i))
    ∙ length-numbers is_marked (get_or ls i [])

listed : (cs ds : ℕ) (ls : List Lane) (i r : ℕ) (l : Lane) (o : Option ℕ) → l ≡ get_or ls i [] → o ≡ slice_get (numbers_of is_marked l) r
    → option_map (Deliver (src_at cs ds i) (dst_at cs ds i)) o ≡ slice_get (marked_at cs ds ls i) r
unfolding marked_at
listed cs ds ls i r l o e f =
    ap (option_map (Deliver (src_at cs ds i) (dst_at cs ds i))) (f ∙ ap (λ m. slice_get (numbers_of is_marked m) r) e)
    ∙ sym (slice_get-map (Deliver (src_at cs ds i) (dst_at cs ds i)) (numbers_of is_marked (get_or ls i [])) r)

-- how many there are at the first places
length-first : {A : Type 0} (h : ℕ → List A) (counts : List ℕ) (n : ℕ) → n ≤ length counts
    → ((j : ℕ) → j < n → length (h j) ≡ get_or counts j 0) → length (flat_map h (numbers n)) ≡ sum (take n counts)
length-first h counts zero le each = ap length (flat-none h)
length-first h counts (suc n) le each =
    let rest : length (flat_map h (numbers n)) ≡ sum (take n counts) =
    length-first h counts n (omega arith) (λ j l. each j (omega arith)) in
    let own : length (h n) ≡ get_or counts n 0 = each n (omega arith) in
    let s : suc n ≡ n + 1 = omega arith in
    ap length (flat-suc h n)
    ∙ (length-append (flat_map h (numbers n)) (h n)
    ∙ ((λ i. rest i + own i)
    ∙ sym (ap (λ k. sum (take k counts)) s
    ∙ (ap (λ xs. sum xs) (take_more counts n 0 (omega arith)) ∙ sum_by_push (λ x. x) (take n counts) (get_or counts n 0)))))

get-flat : {A : Type 0} (h : ℕ → List A) (n i k r : ℕ) → i < n → k ≡ length (flat_map h (numbers i)) + r → r < length (h i)
    → slice_get (flat_map h (numbers n)) k ≡ slice_get (h i) r
get-flat h n i k r l e within =
    let s : n ≡ suc i + (n - suc i) = omega arith in
    let rest : List _ = flat_map h (map (λ j. suc i + j) (numbers (n - suc i))) in
    let a : flat_map h (numbers n) ≡ (flat_map h (numbers i) ++ h i) ++ rest =
    ap (λ m. flat_map h (numbers m)) s ∙ (ap (flat_map h) (numbers-add (suc i) (n - suc i))
    ∙ (flat_map-append h (numbers (suc i)) (map (λ j. suc i + j) (numbers (n - suc i))) ∙ ap (λ ys. ys ++ rest) (flat-suc h i))) in
    ap (λ ys. slice_get ys k) (a ∙ append_assoc (flat_map h (numbers i)) (h i) rest)
    ∙ (get-after (flat_map h (numbers i)) (h i ++ rest) k r e ∙ get-front (h i) rest r within)

module _ (cs ds : ℕ) (ls : List Lane) (tree : List ℕ) (fl : ℕ) (stands : Stands cs ds ls tree fl) where
  pub same-length : length tree ≡ length ls
  same-length = ap length stands.counted.counted ∙ length-map ls (count_by is_marked)

  each : (j : ℕ) → j < length ls → length (marked_at cs ds ls j) ≡ get_or tree j 0
  each j l = length-marked cs ds ls j ∙ sym (counted-at ls tree fl j stands.counted l)

  pub ready-count : length (ready_list (with_lanes cs ds ls)) ≡ sum tree
  ready-count =
      ap length (ready-placed cs ds ls stands.laned)
      ∙ (length-first (marked_at cs ds ls) tree (length ls) (omega (arith, same-length)) each
      ∙ ap (λ xs. sum xs) (take_all (length ls) tree (omega (arith, same-length))))

  -- what a number falls on
  pub ready-falls : (k i r : ℕ) → k ≡ sum (take i tree) + r → r < get_or tree i 0 → i < length tree
      → slice_get (ready_list (with_lanes cs ds ls)) k ≡ slice_get (marked_at cs ds ls i) r
  ready-falls k i r e within exists =
      let l : i < length ls = omega (arith, same-length) in
      let first : length (flat_map (marked_at cs ds ls) (numbers i)) ≡ sum (take i tree) =
      length-first (marked_at cs ds ls) tree i (omega arith) (λ j m. each j (omega arith)) in
      ap (λ es. slice_get es k) (ready-placed cs ds ls stands.laned)
      ∙ get-flat (marked_at cs ds ls) (length ls) i k r l (omega arith) (omega (arith, each i l))

  -- by what its lane lists
  pub ready-listed : (k i r : ℕ) (l : Lane) (o : Option ℕ) → k ≡ sum (take i tree) + r → r < get_or tree i 0 → i < length tree
      → l ≡ get_or ls i []
      → o ≡ slice_get (numbers_of is_marked l) r
      → option_map (Deliver (src_at cs ds i) (dst_at cs ds i)) o ≡ slice_get (ready_list (with_lanes cs ds ls)) k
  ready-listed k i r l o e within exists f g = listed cs ds ls i r l o f g ∙ sym (ready-falls k i r e within exists)

  pub ready-past : (k : ℕ) → sum tree ≤ k → slice_get (ready_list (with_lanes cs ds ls)) k ≡ None
  ready-past k h = slice_get_past (ready_list (with_lanes cs ds ls)) k (omega (arith, ready-count))
