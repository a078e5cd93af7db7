-- Eight words in a row: what is told of a line more, and the words of a line in a list of lines.
use Rattle.std.proofs.Common.{◌≡◌, ℕ, zero, suc, ◌+◌, ◌*◌, ◌/◌, ◌%◌, ◌<◌, List, [], ◌∷◌, ◌++◌, map, get_or, ap, ◌∙◌, refl, arith}
use Rattle.std.proofs.lemmas.Grind.{common_steps, flat_map-append}
use Rattle.std.proofs.lemmas.List.{map-append}
use Rattle.std.proofs.lemmas.List.Sums.{sum_by-append}
use Rattle.std.specs.List.{flat_map, range_with_len, sum}
use Rattle.report_text.specs.InLines.{in_lines}

-- a range is its front and the rest, which begins at b
range_with_len-split : (a b m n : ℕ) → a + m ≡ b → range_with_len a (m + n) ≡ range_with_len a m ++ range_with_len b n
range_with_len-split a b zero n e =
    let same : a ≡ b = omega arith in
    let none : zero + n ≡ n = omega arith in
    rw (none, same) refl
range_with_len-split a b (suc m) n e =
    let one : suc m + n ≡ suc (m + n) = omega arith in
    rw one (ap (λ xs. a ∷ xs) (range_with_len-split (a + 1) b m n (omega arith)))

range-eight_more : (n : ℕ) → range_with_len 0 (8 * (n + 1)) ≡ range_with_len 0 (8 * n) ++ range_with_len (8 * n) 8
range-eight_more n =
    let more : 8 * (n + 1) ≡ 8 * n + 8 = omega arith in
    ap (range_with_len 0) more ∙ range_with_len-split 0 (8 * n) (8 * n) 8 (omega arith)

pub flat_map-eight_more : {A : Type 0} (f : ℕ → List A) (n : ℕ)
    → flat_map f (range_with_len 0 (8 * (n + 1))) ≡ flat_map f (range_with_len 0 (8 * n)) ++ flat_map f (range_with_len (8 * n) 8)
flat_map-eight_more f n = ap (flat_map f) (range-eight_more n) ∙ flat_map-append f (range_with_len 0 (8 * n)) (range_with_len (8 * n) 8)

pub sum-eight_more : (f : ℕ → ℕ) (n : ℕ)
    → sum (map f (range_with_len 0 (8 * (n + 1)))) ≡ sum (map f (range_with_len 0 (8 * n))) + sum (map f (range_with_len (8 * n) 8))
sum-eight_more f n =
    ap (λ xs. sum (map f xs)) (range-eight_more n)
    ∙ ap sum (map-append f (range_with_len 0 (8 * n)) (range_with_len (8 * n) 8))
    ∙ sum_by-append (λ x. x) (map f (range_with_len 0 (8 * n))) (map f (range_with_len (8 * n) 8))

-- what is told of no number of a range
pub flat_map-none : {A : Type 0} (f : ℕ → List A) (a n : ℕ) → ((k : ℕ) → k < n → f (a + k) ≡ []) → flat_map f (range_with_len a n) ≡ []
flat_map-none f a zero none = refl
flat_map-none f a (suc n) none =
    let here : f (a + 0) ≡ [] = none 0 (omega arith) in
    let there : flat_map f (range_with_len (a + 1) n) ≡ [] =
    flat_map-none f (a + 1) n (λ k h. let e : a + 1 + k ≡ a + (k + 1) = omega arith in rw e (none (k + 1) (omega arith))) in
    grind (arith, common_steps, here, there)

in_lines-at : (lines : List (List ℕ)) (line k : ℕ) → k < 8 → in_lines lines (8 * line + k) ≡ get_or (get_or lines line []) k 0
unfolding in_lines
in_lines-at lines line k h =
    let here : (8 * line + k) / 8 ≡ line = omega arith in
    let place : (8 * line + k) % 8 ≡ k = omega arith in
    rw (here, place) refl

map-eight : (f : ℕ → ℕ) (a : ℕ)
    → map f (range_with_len a 8)
    ≡ f (a + 0) ∷ f (a + 1) ∷ f (a + 2) ∷ f (a + 3) ∷ f (a + 4) ∷ f (a + 5) ∷ f (a + 6) ∷ f (a + 7) ∷ []
map-eight f a = grind (arith, common_steps)

-- the values of a line, one by one, are its words
pub in_lines-eight : (lines : List (List ℕ)) (line : ℕ)
    → (let at = get_or (get_or lines line []) in at 0 0 ∷ at 1 0 ∷ at 2 0 ∷ at 3 0 ∷ at 4 0 ∷ at 5 0 ∷ at 6 0 ∷ at 7 0 ∷ [])
    ≡ map (in_lines lines) (range_with_len (8 * line) 8)
in_lines-eight lines line =
    let at = in_lines-at lines line in
    rw map-eight
    (rw (at 0 (omega arith), at 1 (omega arith), at 2 (omega arith), at 3 (omega arith))
    (rw (at 4 (omega arith), at 5 (omega arith), at 6 (omega arith), at 7 (omega arith)) refl))
