-- The names of a command's files, one after the other.
use Rattle.std.proofs.Common.{◌≡◌, ℕ, ◌+◌, ◌<◌, ◌≤◌, List, [], ◌∷◌, ◌++◌, length, map, drop, get_or, Bor, refl, sym, ap, ◌∙◌}
use Rattle.std.proofs.Common.{add-one, append-nil, append_assoc, drop-cons, drop_of_length-le}
use Rattle.std.proofs.lemmas.List.{map-append}

drop-none : (xs : List (List ℕ)) → drop 0 xs ≡ xs
drop-none [] = refl
drop-none (x ∷ xs) = refl

pub first-name : (names : List (Bor (List ℕ))) (name : Bor (List ℕ)) (items images files : List (List ℕ)) → names ≡ [] ++ name ∷ []
    → items ≡ images → files ≡ name.now ∷ images → map (λ w. w.now) names ++ drop 0 items ≡ files
first-name names name items images files are same is =
    ap (λ ns. map (λ w. w.now) ns ++ drop 0 items) are ∙ ap (λ xs. name.now ∷ xs) (drop-none items ∙ same) ∙ sym is

pub no-name : (names : List (Bor (List ℕ))) (items images files : List (List ℕ)) → names ≡ [] → items ≡ images → files ≡ images
    → map (λ w. w.now) names ++ drop 0 items ≡ files
no-name names items images files are same is = ap (λ ns. map (λ w. w.now) ns ++ drop 0 items) are ∙ drop-none items ∙ same ∙ sym is

pub name-more : (names more : List (Bor (List ℕ))) (name : Bor (List ℕ)) (d : List ℕ) (i : ℕ) (items files : List (List ℕ))
    → i < length items
    → map (λ w. w.now) names ++ drop i items ≡ files → more ≡ names ++ name ∷ [] → name.now ≡ get_or items i d
    → map (λ w. w.now) more ++ drop (i + 1) items ≡ files
name-more names more name d i items files there so_far pushed is =
    let before : List (List ℕ) = map (λ w. w.now) names in
    ap (λ ns. map (λ w. w.now) ns ++ drop (i + 1) items) pushed
    ∙ ap (λ ns. ns ++ drop (i + 1) items) (map-append (λ w. w.now) names (name ∷ []))
    ∙ append_assoc before (name.now ∷ []) (drop (i + 1) items)
    ∙ ap (λ n. before ++ n ∷ drop (i + 1) items) is
    ∙ ap (λ k. before ++ get_or items i d ∷ drop k items) (add-one i)
    ∙ ap (λ xs. before ++ xs) (sym (drop-cons items i d there))
    ∙ so_far

pub all-names : (names : List (Bor (List ℕ))) (i : ℕ) (items files : List (List ℕ)) → length items ≤ i
    → map (λ w. w.now) names ++ drop i items ≡ files → map (λ w. w.now) names ≡ files
all-names names i items files over so_far =
    let before : List (List ℕ) = map (λ w. w.now) names in
    sym (append-nil before) ∙ ap (λ xs. before ++ xs) (sym (drop_of_length-le items over)) ∙ so_far
