-- Passing over the pieces of a link, one by one: what is left of them has what is looked for.
use Rattle.std.proofs.Common.{◌≡◌, ℕ, suc, zero, ◌+◌, ◌-◌, ◌<◌, ◌≤◌, Bool, ⊎_elim, List, [], ◌∷◌, ◌++◌, length, get_or, set, take, drop}
use Rattle.std.proofs.Common.{None, Some, refl, ap, sym, subst, ◌∙◌, append_assoc, length-append, arith}
use Rattle.std.specs.Prelude.{slice_get}
use Rattle.std.specs.List.{count_by}
use Rattle.std.proofs.lemmas.List.{at_drop_more, drop_all, get_or_read, get_or_default, get_or_past, take_more, get_or-append_right}
use Rattle.std.proofs.lemmas.Bool.{cases_lt}
use Rattle.std.proofs.lemmas.List.Sums.{sum_by-set, get_or-le-sum_by}
use Rattle.rules_maps.specs.Words.{num}
use Rattle.machine_links.specs.declared.lane.Waiting.{Waiting}
use Rattle.machine_links.specs.Laid.{held_at}
use Rattle.machine_links.specs.Pieces.{AreFull, AreRising, flat}
use Rattle.machine_links.proofs.Finding.{rises-order, held-get, held-absent}
use Rattle.machine_links.proofs.Pieces.{blank, flat-push, rising-left, rising-drop, held-behind, held-reached, ready}
use Rattle.machine_links.proofs.Pieces.{ready-left, ready-right, slice_get-left}
use Rattle.machine_links.proofs.Pieces.{slice_get-right}

-- in one list by rising number
pub order : (ws : List Waiting) → AreRising ws → (i j : ℕ) (d : Waiting) → i ≤ j → j < length ws
    → (get_or ws i d).seq ≤ (get_or ws j d).seq
order ws r i j d le h = rises-order 0 r.high ws i j d r.rises le h

pub found-at : (ws : List Waiting) (k i : ℕ) (x : Waiting) → AreRising ws → i < length ws → ((d : Waiting) → (get_or ws i d).seq ≡ k)
    → x ≡ get_or ws i x → Some x.held ≡ held_at ws k
found-at ws k i x r h own e =
    sym (ap (held_at ws) (sym (own x)) ∙ (held-get 0 r.high ws i x r.rises h ∙ ap (λ w. Some w.held) (sym e)))

held-below : (ws : List Waiting) (k n : ℕ) (x : Waiting) → AreRising ws → n ≡ length ws → x ≡ get_or ws (n - 1) x → x.seq < k
    → held_at ws k ≡ None
held-below ws k n x r len e lt = held-absent ws k (λ i d l q.
    let o : (get_or ws i x).seq ≤ (get_or ws (n - 1) x).seq = order ws r i (n - 1) x (omega arith) (omega arith) in
    let same : (get_or ws i d).seq ≡ (get_or ws i x).seq = ap (λ w. w.seq) (get_or_default ws i d x l) in
    let own : x.seq ≡ (get_or ws (n - 1) x).seq = ap (λ w. w.seq) e in omega arith)

-- the count of the marked ones
pub counted-at : (ws : List Waiting) (i : ℕ) (was : Bool) (n : ℕ) → i < length ws → was ≡ (get_or ws i blank).held.ready
    → n ≡ count_by (λ w. w.held.ready) ws → num was ≤ n
counted-at ws i was n h e c =
    let a : num (get_or ws i blank).held.ready ≤ count_by (λ w. w.held.ready) ws =
    get_or-le-sum_by (λ w. num w.held.ready) ws i blank h in
    let b : num was ≡ num (get_or ws i blank).held.ready = ap num e in omega arith

pub counted-mark : (ws vs : List Waiting) (i : ℕ) (b was : Bool) (old new : ℕ) → i < length ws → was ≡ (get_or ws i blank).held.ready
    → vs ≡ set ws i (record (get_or ws i blank) { held = record (get_or ws i blank).held { ready = b } })
    → old ≡ count_by (λ w. w.held.ready) ws → new + num was ≡ old + num b → new ≡ count_by (λ w. w.held.ready) vs
counted-mark ws vs i b was old new h e f c g =
    let v : Waiting = record (get_or ws i blank) { held = record (get_or ws i blank).held { ready = b } } in
    let a : count_by (λ w. w.held.ready) (set ws i v) + num (get_or ws i blank).held.ready ≡ count_by (λ w. w.held.ready) ws + num b =
    sum_by-set (λ w. num w.held.ready) ws i v blank h in
    let p : num was ≡ num (get_or ws i blank).held.ready = ap num e in
    let q : count_by (λ w. w.held.ready) vs ≡ count_by (λ w. w.held.ready) (set ws i v) = ap (count_by (λ w. w.held.ready)) f in omega arith

-- one piece on
left : (xs : List (List Waiting)) (n : ℕ) (x : List Waiting) → n < length xs → x ≡ get_or xs n x
    → flat (drop n xs) ≡ x ++ flat (drop (n + 1) xs)
unfolding flat
left xs n x h e =
    let a : flat (drop n xs) ≡ get_or xs n [] ++ flat (drop (n + 1) xs) = at_drop_more flat xs n [] h in
    a ∙ ap (λ z. z ++ flat (drop (n + 1) xs)) (sym (get_or_read xs n x h e []))

none-left : (xs : List (List Waiting)) (n : ℕ) → length xs ≤ n → flat (drop n xs) ≡ []
unfolding flat
none-left xs n h = ap flat (drop_all n xs h)

-- the message of a number
split : (xs : List (List Waiting)) (n : ℕ) → flat xs ≡ flat (take n xs) ++ flat (drop n xs)
unfolding flat
split xs zero = refl
split [] (suc n) = refl
split (x ∷ xs) (suc n) = ap (λ z. x ++ z) (split xs n) ∙ sym (append_assoc x (flat (take n xs)) (flat (drop n xs)))

split-at : (xs : List (List Waiting)) (n : ℕ) (x : List Waiting) → n < length xs → x ≡ get_or xs n x
    → flat xs ≡ (flat (take n xs) ++ x) ++ flat (drop (n + 1) xs)
split-at xs n x h e =
    let a : flat (take (n + 1) xs) ≡ flat (take n xs) ++ get_or xs n [] =
    ap flat (take_more xs n [] h) ∙ flat-push (take n xs) (get_or xs n []) in
    split xs (n + 1) ∙ ap (λ z. z ++ flat (drop (n + 1) xs)) (a ∙ ap (λ z. flat (take n xs) ++ z) (sym (get_or_read xs n x h e [])))

below-last : (p x : List Waiting) (k : ℕ) → AreRising (p ++ x) → 0 < length x → ((d : Waiting) → (get_or x (length x - 1) d).seq < k)
    → held_at (p ++ x) k ≡ None
below-last p x k r some lt =
    let w : Waiting = get_or x (length x - 1) blank in
    let many : length (p ++ x) ≡ length p + length x = length-append p x in
    let place : length (p ++ x) - 1 - length p ≡ length x - 1 = omega arith in
    let e : w ≡ get_or (p ++ x) (length (p ++ x) - 1) w =
    get_or_default x (length x - 1) blank w (omega arith)
    ∙ (ap (λ n. get_or x n w) (sym place) ∙ sym (get_or-append_right p x (length p) (length (p ++ x) - 1) w refl (omega arith))) in
    held-below (p ++ x) k (length (p ++ x)) w r refl e (lt blank)

pub number-after : (xs : List (List Waiting)) (n k : ℕ) (x : List Waiting) → AreRising (flat xs) → n < length xs → x ≡ get_or xs n x
    → 0 < length x → ((d : Waiting) → (get_or x (length x - 1) d).seq < k)
    → held_at (flat (drop (n + 1) xs)) k ≡ held_at (flat xs) k
number-after xs n k x r h e some lt =
    let s = split-at xs n x h e in
    let rising : AreRising (flat (take n xs) ++ x) =
    rising-left (flat (take n xs) ++ x) (flat (drop (n + 1) xs)) (subst AreRising s r) in
    sym (ap (λ ws. held_at ws k) s
    ∙ held-behind (flat (take n xs) ++ x) (flat (drop (n + 1) xs)) k (below-last (flat (take n xs)) x k rising some lt))

pub number-here : (xs : List (List Waiting)) (n k : ℕ) (x : List Waiting) → AreRising (flat xs) → n < length xs → x ≡ get_or xs n x
    → held_at (flat (drop n xs)) k ≡ held_at (flat xs) k → 0 < length x → ((d : Waiting) → k ≤ (get_or x (length x - 1) d).seq)
    → held_at (flat xs) k ≡ held_at (get_or xs n []) k
number-here xs n k [] r h e inv some le = absurd (omega arith)
number-here xs n k (w ∷ x) r h e inv some le =
    let parts = left xs n (w ∷ x) h e in
    sym inv ∙ (ap (λ ws. held_at ws k) parts
    ∙ (held-reached (w ∷ x) (flat (drop (n + 1) xs)) k w (subst AreRising parts (rising-drop xs n r)) some (le w)
    ∙ ap (λ ws. held_at ws k) (get_or_read xs n (w ∷ x) h e [])))

pub number-end : (xs : List (List Waiting)) (n k : ℕ) → length xs ≤ n → held_at (flat (drop n xs)) k ≡ held_at (flat xs) k
    → held_at (flat xs) k ≡ held_at (get_or xs n []) k
number-end xs n k h inv =
    sym inv ∙ (ap (λ ws. held_at ws k) (none-left xs n h) ∙ ap (λ ws. held_at ws k) (sym (get_or_past xs n [] h)))

-- where a search among them has come
pub record Between (xs : List (List Waiting)) (k low high : ℕ) : Type 0 where
  pub order : low ≤ high
  pub within : high ≤ length xs
  pub passed : held_at (flat (drop low xs)) k ≡ held_at (flat xs) k
  pub reached : high < length xs → (d : Waiting) → k ≤ (get_or (get_or xs high []) (length (get_or xs high []) - 1) d).seq

pub between-all : (xs : List (List Waiting)) (k : ℕ) → Between xs k 0 (length xs)
between-all xs k = record { order = omega arith; within = omega arith; passed = refl; reached = λ h. absurd (omega arith) }

pub between-up : (xs : List (List Waiting)) (k low high mid : ℕ) (x : List Waiting) → AreRising (flat xs) → AreFull xs
    → Between xs k low high → mid < high → x ≡ get_or xs mid x → ((d : Waiting) → (get_or x (length x - 1) d).seq < k)
    → Between xs k (mid + 1) high
between-up xs k low high mid x r full b lt e below =
    let h : mid < length xs = omega (arith, b.within) in
    let same : x ≡ get_or xs mid [] = get_or_read xs mid x h e [] in
    record {
      order = omega arith;
      within = b.within;
      passed = number-after xs mid k x r h e (omega (arith, full mid h, ap length same)) below;
      reached = b.reached;
    }

pub between-down : (xs : List (List Waiting)) (k low high mid : ℕ) (x : List Waiting) → Between xs k low high → low ≤ mid → mid < high
    → x ≡ get_or xs mid x → ((d : Waiting) → k ≤ (get_or x (length x - 1) d).seq) → Between xs k low mid
between-down xs k low high mid x b le lt e reaches =
    let h : mid < length xs = omega (arith, b.within) in
    record {
      order = le;
      within = omega (arith, b.within);
      passed = b.passed;
      reached = λ g d. subst (λ y. k ≤ (get_or y (length y - 1) d).seq) (get_or_read xs mid x h e []) (reaches d);
    }

pub between-end : (xs : List (List Waiting)) (k low high : ℕ) → AreRising (flat xs) → AreFull xs → Between xs k low high → high ≤ low
    → held_at (flat xs) k ≡ held_at (get_or xs low []) k
between-end xs k low high r full b le = ⊎_elim (λ h. here h) (λ h. number-end xs low k h b.passed) (cases_lt low (length xs))
  where
    same : high ≡ low
    same = omega (arith, b.order)

    here : low < length xs → held_at (flat xs) k ≡ held_at (get_or xs low []) k
    here h =
        let x = get_or xs low [] in
        let reached : (d : Waiting) → k ≤ (get_or x (length x - 1) d).seq =
        subst (λ n. (d : Waiting) → k ≤ (get_or (get_or xs n []) (length (get_or xs n []) - 1) d).seq) same
        (b.reached (omega (arith, same))) in
        number-here xs low k x r h (get_or_default xs low [] x h) b.passed (full low h) reached

-- the message at a place
pub place-on : (xs : List (List Waiting)) (n i k : ℕ) (x : List Waiting) → n < length xs → x ≡ get_or xs n x
    → slice_get (flat (drop n xs)) i ≡ slice_get (flat xs) k → length x ≤ i
    → slice_get (flat (drop (n + 1) xs)) (i - length x) ≡ slice_get (flat xs) k
place-on xs n i k x h e inv le =
    sym (slice_get-right x (flat (drop (n + 1) xs)) i le) ∙ (ap (λ ws. slice_get ws i) (sym (left xs n x h e)) ∙ inv)

pub place-here : (xs : List (List Waiting)) (n i k : ℕ) (x : List Waiting) → n < length xs → x ≡ get_or xs n x
    → slice_get (flat (drop n xs)) i ≡ slice_get (flat xs) k → i < length x → slice_get x i ≡ slice_get (flat xs) k
place-here xs n i k x h e inv lt =
    sym (slice_get-left x (flat (drop (n + 1) xs)) i lt) ∙ (ap (λ ws. slice_get ws i) (sym (left xs n x h e)) ∙ inv)

pub place-end : (xs : List (List Waiting)) (n i k : ℕ) → length xs ≤ n → slice_get (flat (drop n xs)) i ≡ slice_get (flat xs) k
    → None ≡ slice_get (flat xs) k
place-end xs n i k h inv = ap (λ ws. slice_get ws i) (sym (none-left xs n h)) ∙ inv

-- the marked one of a place among them
pub ready-on : (xs : List (List Waiting)) (n i k : ℕ) (x : List Waiting) → n < length xs → x ≡ get_or xs n x
    → slice_get (ready (flat (drop n xs))) i ≡ slice_get (ready (flat xs)) k → count_by (λ w. w.held.ready) x ≤ i
    → slice_get (ready (flat (drop (n + 1) xs))) (i - count_by (λ w. w.held.ready) x) ≡ slice_get (ready (flat xs)) k
ready-on xs n i k x h e inv le =
    sym (ready-right x (flat (drop (n + 1) xs)) i le) ∙ (ap (λ ws. slice_get (ready ws) i) (sym (left xs n x h e)) ∙ inv)

pub ready-here : (xs : List (List Waiting)) (n i k : ℕ) (x : List Waiting) → n < length xs → x ≡ get_or xs n x
    → slice_get (ready (flat (drop n xs))) i ≡ slice_get (ready (flat xs)) k → i < count_by (λ w. w.held.ready) x
    → slice_get (ready x) i ≡ slice_get (ready (flat xs)) k
ready-here xs n i k x h e inv lt =
    sym (ready-left x (flat (drop (n + 1) xs)) i lt) ∙ (ap (λ ws. slice_get (ready ws) i) (sym (left xs n x h e)) ∙ inv)

pub ready-end : (xs : List (List Waiting)) (n i k : ℕ) → length xs ≤ n
    → slice_get (ready (flat (drop n xs))) i ≡ slice_get (ready (flat xs)) k
    → None ≡ slice_get (ready (flat xs)) k
ready-end xs n i k h inv = ap (λ ws. slice_get (ready ws) i) (sym (none-left xs n h)) ∙ inv
