-- None of the pieces is empty, after a change of one of them.
use Rattle.std.proofs.Common.{◌≡◌, ◌≢◌, ℕ, ◌+◌, ◌<◌, ⊎_elim, Bool, List, [], ◌∷◌, ◌++◌, length, get_or, set, Option}
use Rattle.std.proofs.Common.{ap, sym, subst, ◌∙◌, arith}
use Rattle.std.specs.Prelude.{IfSome, IfNone, Result, Ok, Err, OnOk, OnErr, is_ok, if◌then◌else◌}
use Rattle.std.specs.List.{remove}
use Rattle.std.proofs.lemmas.Bool.{cases_eq, cases_lt}
use Rattle.std.proofs.lemmas.List.{get_or-set_same, get_or-set_other, get_or_append_left, get_or_push, get_or_read, length-set, length_push}
use Rattle.std.proofs.lemmas.List.Edits.{length-remove, get_or-remove_below, get_or-remove_above}
use Rattle.machine_links.specs.declared.lane.Waiting.{Waiting}
use Rattle.machine_links.specs.Pieces.{AreFull, Marked}
use Rattle.machine_links.proofs.Pieces.{length-marked}

-- all but one
abbrev pub AreFullBut : List (List Waiting) → ℕ → Type 0
AreFullBut xs p = (k : ℕ) → k < length xs → k ≢ p → 0 < length (get_or xs k [])

pub full-but : (xs : List (List Waiting)) (p : ℕ) (v : List Waiting) → AreFull xs → AreFullBut (set xs p v) p
full-but xs p v full = λ k l ne.
    let e : length (get_or (set xs p v) k []) ≡ length (get_or xs k []) = ap length (get_or-set_other xs p k v [] ne) in
    omega (arith, full k (omega (arith, length-set xs p v)))

pub full-kept : (xs : List (List Waiting)) (p : ℕ) → AreFullBut xs p → 0 < length (get_or xs p []) → AreFull xs
full-kept xs p full own = λ k l. ⊎_elim
    (λ e. let f : length (get_or xs k []) ≡ length (get_or xs p []) = ap (λ j. length (get_or xs j [])) e in omega arith)
    (λ ne. full k l ne) (cases_eq k p)

pub full-set : (xs : List (List Waiting)) (p : ℕ) (v : List Waiting) → p < length xs → AreFull xs → 0 < length v → AreFull (set xs p v)
full-set xs p v h full some =
    let e : length (get_or (set xs p v) p []) ≡ length v = ap length (get_or-set_same xs p v [] h) in
    full-kept (set xs p v) p (full-but xs p v full) (omega arith)

pub full-push : (xs : List (List Waiting)) (v : List Waiting) → AreFull xs → 0 < length v → AreFull (xs ++ v ∷ [])
full-push xs v full some = λ k l. ⊎_elim
    (λ lt. let e : length (get_or (xs ++ v ∷ []) k []) ≡ length (get_or xs k []) =
    ap length (get_or_append_left xs (v ∷ []) [] k lt) in omega (arith, full k lt))
    (λ ge. let same : length xs ≡ k = omega (arith, length_push xs v) in
    let e : length (get_or (xs ++ v ∷ []) k []) ≡ length v = ap length (get_or_push xs v [] k same) in omega arith)
    (cases_lt k (length xs))

pub full-remove : (xs : List (List Waiting)) (p : ℕ) → p < length xs → AreFullBut xs p → AreFull (remove xs p)
full-remove xs p h full = λ k l.
    let n : length (remove xs p) + 1 ≡ length xs = length-remove xs p h in
    ⊎_elim
    (λ lt. let e : length (get_or (remove xs p) k []) ≡ length (get_or xs k []) = ap length (get_or-remove_below xs p [] k lt h) in
    omega (arith, full k (omega arith) (λ f. omega arith)))
    (λ ge. let e : length (get_or (remove xs p) k []) ≡ length (get_or xs (k + 1) []) = ap length (get_or-remove_above xs p [] k ge h) in
    omega (arith, full (k + 1) (omega arith) (λ f. omega arith)))
    (cases_lt k p)

-- the last piece has one more, or there is a new one
pub full-last : {A B : Type 0} (xs : List (List Waiting)) (p : ℕ) (x v : List Waiting) (w : Waiting) (r : Result A B) → p < length xs
    → x ≡ get_or xs p x → OnOk r (v ≡ x ++ w ∷ []) → OnErr r (v ≡ x) → AreFull xs → AreFull (set xs p v)
full-last xs p x v w (Ok a) h e ok err full =
    let n : length v ≡ length (x ++ w ∷ []) = ap length ok in full-set xs p v h full (omega (arith, length_push x w))
full-last xs p x v w (Err b) h e ok err full =
    let n : length v ≡ length (get_or xs p []) = ap length (err ∙ get_or_read xs p x h e []) in
    full-set xs p v h full (omega (arith, full p h))

pub full-new : {A B : Type 0} (xs ys : List (List Waiting)) (x : List Waiting) (w : Waiting) (r : Result A B)
    → ys ≡ (if is_ok r then xs ++ x ∷ [] else xs) → x ≡ w ∷ [] → AreFull xs → AreFull ys
full-new xs ys x w (Ok a) q e full =
    let n : length x ≡ 1 = ap length e in subst AreFull (sym q) (full-push xs x full (omega arith))
full-new xs ys x w (Err b) q e full = subst AreFull (sym q) full

-- marked
pub full-marked : (xs : List (List Waiting)) (p : ℕ) (x v : List Waiting) (k : ℕ) (b : Bool) (o : Option Bool) → p < length xs
    → x ≡ get_or xs p x → IfSome o (λ was. Marked x v k b was) → IfNone o (v ≡ x) → AreFull xs → AreFull (set xs p v)
full-marked xs p x v k b o h e some none full =
    let n : length v ≡ length x = length-marked x v k b o some none in
    let m : length x ≡ length (get_or xs p []) = ap length (get_or_read xs p x h e []) in
    full-set xs p v h full (omega (arith, full p h))
