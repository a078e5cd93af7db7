-- The lines of a set as a list of rising numbers: of one line, of marked lines, and of both.
use Rattle.std.proofs.Common.{◌≡◌, ℕ, zero, suc, ◌<◌, ◌≤◌, ◌==◌, ◌||◌, nat_lt, Bool, true, false, cond, List, [], ◌∷◌, ◌++◌, append-nil}
use Rattle.std.proofs.Common.{if◌then◌else◌, get_or, length, refl, ap, subst, sym, ◌∙◌, arith}
use Rattle.std.proofs.lemmas.Bool.Decides.{nat_tests}
use Rattle.std.proofs.Common.{◌+◌, ◌-◌, Option, Some, None, drop, length-drop, take}
use Rattle.std.specs.Prelude.{option_map, slice_get}
use Rattle.std.proofs.lemmas.List.{append_assoc, drop_all, drop_more, get_or-map, length-map, map-append, take_all, take_more}
use Rattle.std.proofs.lemmas.Option.{get_or_from_slice_get, slice_get-get_or, slice_get_within}
use Rattle.std.proofs.lemmas.List.Elements.{Contains-get_or}
use Rattle.std.specs.List.{All}
use Rattle.tcc_base.specs.declared.names.LineAddr.{LineAddr}
use Rattle.base_lemmas.proofs.Lemmas.{those-same}
use Rattle.rules_maps.specs.Words.{those}
use Rattle.rules_maps.proofs.Lemmas.{those-only}
use Rattle.watch_changes.specs.Plain.{line_numbers, with_line}

pub those-none : (n : ℕ) → those (λ j. false) n ≡ []
unfolding those
those-none zero = refl
those-none (suc n) = append-nil (those (λ j. false) n) ∙ those-none n

-- ---- one line

pub alone-outside : (l n : ℕ) → n ≤ l → those (λ j. j == l) n ≡ []
alone-outside l n b = those-same (λ j. j == l) (λ j. false) n (λ k h. grind (arith, nat_tests)) ∙ those-none n

pub alone-inside : (l n : ℕ) → l < n → those (λ j. j == l) n ≡ l ∷ []
unfolding those
alone-inside l zero b = absurd (omega (arith, b))
alone-inside l (suc n) b = go (λ h. alone-inside l n h) (n == l) refl
  where
    go : (l < n → those (λ j. j == l) n ≡ l ∷ []) → (t : Bool) → (n == l) ≡ t → those (λ j. j == l) n ++ cond t (n ∷ []) [] ≡ l ∷ []
    go ih true e =
        let last : n ≡ l = grind (arith, nat_tests) in
        ap (λ ys. ys ++ n ∷ []) (alone-outside l n (omega (arith, last))) ∙ ap (λ k. k ∷ []) last
    go ih false e =
        let less : l < n = grind (arith, nat_tests) in
        append-nil (those (λ j. j == l) n) ∙ ih less

-- ---- one more line

pub more-outside : (l n : ℕ) (p : ℕ → Bool) → n ≤ l → those (λ j. j == l || p j) n ≡ those p n
more-outside l n p b = those-same (λ j. j == l || p j) p n (λ k h. apart k h (k == l) refl)
  where
    apart : (k : ℕ) → k < n → (t : Bool) → (k == l) ≡ t → (t || p k) ≡ p k
    apart k h false e = refl
    apart k h true e = absurd (let same : k ≡ l = grind (arith, nat_tests) in omega (arith, b, h, same))

abbrev AreLess : ℕ → List ℕ → Type 0
AreLess l [] = Unit {0}
AreLess l (j ∷ js) = (j < l) × AreLess l js

less-append : (l : ℕ) (js ks : List ℕ) → AreLess l js → AreLess l ks → AreLess l (js ++ ks)
less-append l [] ks a b = b
less-append l (j ∷ js) ks a b = (a.0, less-append l js ks a.1 b)

those-less : (l n : ℕ) (p : ℕ → Bool) → n ≤ l → AreLess l (those p n)
unfolding those
those-less l zero p b = record {}
those-less l (suc n) p b = less-append l (those p n) (cond (p n) (n ∷ []) []) (those-less l n p (omega (arith, b))) (last (p n))
  where
    last : (t : Bool) → AreLess l (cond t (n ∷ []) [])
    last true = (omega (arith, b), record {})
    last false = record {}

-- behind smaller numbers, and before a larger one
with-behind : (l : ℕ) (js ks : List ℕ) → AreLess l js → with_line l (js ++ ks) ≡ js ++ with_line l ks
unfolding with_line
with-behind l [] ks a = refl
with-behind l (j ∷ js) ks a =
    let less : nat_lt j l ≡ true = let h = a.0 in grind (arith, nat_tests) in
    rw less (ap (λ ys. j ∷ ys) (with-behind l js ks a.1))

with-before : (l n : ℕ) (js : List ℕ) → l < n → with_line l (js ++ n ∷ []) ≡ with_line l js ++ n ∷ []
unfolding with_line
with-before l n [] b =
    let over : nat_lt n l ≡ false = grind (arith, nat_tests) in
    let apart : (l == n) ≡ false = grind (arith, nat_tests) in
    rw (over, apart) refl
with-before l n (j ∷ js) b = go (with-before l n js b) (nat_lt j l) (l == j)
  where
    go : with_line l (js ++ n ∷ []) ≡ with_line l js ++ n ∷ [] → (s t : Bool)
        → (if s then j ∷ with_line l (js ++ n ∷ []) else if t then j ∷ (js ++ n ∷ []) else l ∷ j ∷ (js ++ n ∷ []))
        ≡ (if s then j ∷ with_line l js else if t then j ∷ js else l ∷ j ∷ js) ++ n ∷ []
    go ih true t = ap (λ ys. j ∷ ys) ih
    go ih false true = refl
    go ih false false = refl

with-self : (l : ℕ) (t : Bool) → with_line l (cond t (l ∷ []) []) ≡ l ∷ []
unfolding with_line
with-self l true =
    let over : nat_lt l l ≡ false = grind (arith, nat_tests) in
    let same : (l == l) ≡ true = grind (arith, nat_tests) in
    rw (over, same) refl
with-self l false = refl

pub with-those : (l n : ℕ) (p : ℕ → Bool) → l < n → with_line l (those p n) ≡ those (λ j. j == l || p j) n
unfolding those
with-those l zero p b = absurd (omega (arith, b))
with-those l (suc n) p b = go (λ h. with-those l n p h) (n == l) refl (p n)
  where
    go : (l < n → with_line l (those p n) ≡ those (λ j. j == l || p j) n) → (s : Bool) → (n == l) ≡ s → (t : Bool)
        → with_line l (those p n ++ cond t (n ∷ []) []) ≡ those (λ j. j == l || p j) n ++ cond (s || t) (n ∷ []) []
    go ih true e t =
        let last : n ≡ l = grind (arith, nat_tests) in
        ap (λ m. with_line l (those p n ++ cond t (m ∷ []) [])) last
        ∙ with-behind l (those p n) (cond t (l ∷ []) []) (those-less l n p (omega (arith, last)))
        ∙ (λ i. sym (more-outside l n p (omega (arith, last))) i ++ with-self l t i)
        ∙ ap (λ m. those (λ j. j == l || p j) n ++ m ∷ []) (sym last)
    go ih false e true =
        let less : l < n = grind (arith, nat_tests) in
        with-before l n (those p n) less ∙ ap (λ ys. ys ++ n ∷ []) (ih less)
    go ih false e false =
        let less : l < n = grind (arith, nat_tests) in
        ap (with_line l) (append-nil (those p n)) ∙ ih less ∙ sym (append-nil (those (λ j. j == l || p j) n))

-- ---- as the code lists them

pub lines-inside : (ls : List LineAddr) (p : ℕ → Bool) (n : ℕ) → line_numbers ls ≡ those p n → All (λ l. l.0 < n) ls
lines-inside ls p n e = λ k d h.
    let count : k < length (line_numbers ls) = omega (arith, h, length-map ls (λ l. l.0)) in
    let at : get_or (those p n) k d.0 ≡ (get_or ls k d).0 =
    ap (λ xs. get_or xs k d.0) (sym e) ∙ get_or-map (λ l. l.0) ls k d d.0 h in
    let has = Contains-get_or (those p n) k d.0 (subst (λ xs. k < length xs) e count) in
    subst (λ j. j < n) at (those-only p n (get_or (those p n) k d.0) has).0

-- one line more of a list
pub found-more : (xs : List ℕ) (k : ℕ) (o : Option LineAddr) (x : LineAddr) → option_map (λ l. l.0) o ≡ slice_get xs k → o ≡ Some x
    → take (k + 1) xs ≡ take k xs ++ x.0 ∷ []
found-more xs k o x at e =
    let here : slice_get xs k ≡ Some x.0 = sym at ∙ ap (λ p. option_map (λ l. l.0) p) e in
    take_more xs k x.0 (slice_get_within xs k x.0 here) ∙ ap (λ y. take k xs ++ y ∷ []) (get_or_from_slice_get xs k x.0 x.0 here)

pub found-past : (xs : List ℕ) (k : ℕ) (o : Option LineAddr) → option_map (λ l. l.0) o ≡ slice_get xs k → o ≡ None → k < length xs → ⊥
found-past xs k o at e h =
    let here : slice_get xs k ≡ Some (get_or xs k 0) = slice_get-get_or xs k 0 h in
    let none : slice_get xs k ≡ None = sym at ∙ ap (λ p. option_map (λ l. l.0) p) e in
    cc

-- ---- where one more line comes among rising ones

pub place-more : (l : ℕ) (ls : List LineAddr) (k : ℕ) (d : LineAddr) (all : List ℕ) → k < length ls → (get_or ls k d).0 < l
    → line_numbers (take k ls) ++ with_line l (line_numbers (drop k ls)) ≡ all
    → line_numbers (take (k + 1) ls) ++ with_line l (line_numbers (drop (k + 1) ls)) ≡ all
unfolding with_line
place-more l ls k d all h less e =
    let x = get_or ls k d in
    let rest = line_numbers (drop (k + 1) ls) in
    let first : line_numbers (take (k + 1) ls) ≡ line_numbers (take k ls) ++ x.0 ∷ [] =
    ap (λ xs. line_numbers xs) (take_more ls k d h) ∙ map-append (λ j. j.0) (take k ls) (x ∷ []) in
    let test : nat_lt x.0 l ≡ true = grind (arith, nat_tests) in
    let next : with_line l (x.0 ∷ rest) ≡ x.0 ∷ with_line l rest = rw test refl in
    ap (λ xs. xs ++ with_line l rest) first ∙ append_assoc (line_numbers (take k ls)) (x.0 ∷ []) (with_line l rest)
    ∙ ap (λ xs. line_numbers (take k ls) ++ xs) (sym next)
    ∙ ap (λ xs. line_numbers (take k ls) ++ with_line l (line_numbers xs)) (sym (drop_more ls k d h)) ∙ e

-- it comes last
pub placed-end : (l : ℕ) (ls : List LineAddr) (k : ℕ) → length ls ≤ k
    → with_line l (line_numbers (drop k ls)) ≡ l ∷ line_numbers (drop k ls)
unfolding with_line
placed-end l ls k b = rw (drop_all k ls b) refl

-- it comes before another
pub placed-new : (l : ℕ) (ls : List LineAddr) (k : ℕ) (d : LineAddr) → k < length ls → ((get_or ls k d).0 ≡ l → ⊥)
    → l ≤ (get_or ls k d).0 → with_line l (line_numbers (drop k ls)) ≡ l ∷ line_numbers (drop k ls)
unfolding with_line
placed-new l ls k d h other up =
    let over : nat_lt (get_or ls k d).0 l ≡ false = grind (arith, nat_tests) in
    let apart : (l == (get_or ls k d).0) ≡ false = grind (arith, nat_tests) in
    rw (drop_more ls k d h, over, apart) refl

-- it is there
pub placed-at : (l : ℕ) (ls : List LineAddr) (k : ℕ) (d : LineAddr) → k < length ls → (get_or ls k d).0 ≡ l
    → with_line l (line_numbers (drop k ls)) ≡ line_numbers (drop k ls)
unfolding with_line
placed-at l ls k d h e =
    let over : nat_lt (get_or ls k d).0 l ≡ false = grind (arith, nat_tests) in
    let same : (l == (get_or ls k d).0) ≡ true = grind (arith, nat_tests) in
    rw (drop_more ls k d h, over, same) refl

-- what was found and the lines behind it are all, with the one before them, and where it is one of them
slice-rest : (ls : List LineAddr) (k : ℕ) → take (length ls - k) (drop k ls) ≡ drop k ls
slice-rest ls k = take_all (length ls - k) (drop k ls) (omega (arith, length-drop k ls))

pub rest-behind : (l : ℕ) (ls : List LineAddr) (k : ℕ) (found new all : List ℕ) → found ≡ line_numbers (take k ls) ++ l ∷ []
    → new ≡ found ++ line_numbers (take (length ls - k) (drop k ls))
    → with_line l (line_numbers (drop k ls)) ≡ l ∷ line_numbers (drop k ls)
    → line_numbers (take k ls) ++ with_line l (line_numbers (drop k ls)) ≡ all → new ≡ all
rest-behind l ls k found new all f n p e =
    n ∙ (λ i. f i ++ line_numbers (slice-rest ls k i))
    ∙ append_assoc (line_numbers (take k ls)) (l ∷ []) (line_numbers (drop k ls))
    ∙ ap (λ js. line_numbers (take k ls) ++ js) (sym p) ∙ e

pub rest-there : (l : ℕ) (ls : List LineAddr) (k : ℕ) (found new all : List ℕ) → found ≡ line_numbers (take k ls)
    → new ≡ found ++ line_numbers (take (length ls - k) (drop k ls))
    → with_line l (line_numbers (drop k ls)) ≡ line_numbers (drop k ls)
    → line_numbers (take k ls) ++ with_line l (line_numbers (drop k ls)) ≡ all → new ≡ all
rest-there l ls k found new all f n p e =
    n ∙ (λ i. f i ++ line_numbers (slice-rest ls k i)) ∙ ap (λ js. line_numbers (take k ls) ++ js) (sym p) ∙ e
