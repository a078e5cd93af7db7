-- The k-th of several lists one after another.
use Rattle.std.proofs.Common.{◌≡◌, ℕ, zero, suc, ◌+◌, ◌<◌, List, [], ◌∷◌, ◌++◌}
use Rattle.std.proofs.Common.{map, take, length, length-append, Some, refl, ap, sym, ◌∙◌, arith}
use Rattle.std.specs.Prelude.{slice_get, sum}
use Rattle.std.specs.List.{flat_map}
use Rattle.std.proofs.lemmas.List.Sums.{sum_by-cons}
use Rattle.base_lemmas.proofs.Lemmas.{get-front}

sum-cons : (x : ℕ) (xs : List ℕ) → sum (x ∷ xs) ≡ x + sum xs
sum-cons x xs = sum_by-cons (λ y. y) x xs

pub get-right : {A : Type 0} (xs ys : List A) (i k : ℕ) → k ≡ length xs + i → slice_get (xs ++ ys) k ≡ slice_get ys i
get-right [] ys i k e = ap (slice_get ys) (omega arith)
get-right (x ∷ xs) ys i zero e = absurd (omega arith)
get-right (x ∷ xs) ys i (suc k) e = get-right xs ys i k (omega arith)

pub flat-length : {A B : Type 0} (f : A → List B) (xs : List A) → length (flat_map f xs) ≡ sum (map (λ x. length (f x)) xs)
flat-length f [] = refl
flat-length f (x ∷ xs) = length-append (f x) (flat_map f xs) ∙ ap (λ n. length (f x) + n) (flat-length f xs)
    ∙ sym (sum-cons (length (f x)) (map (λ y. length (f y)) xs))

-- element r of the i-th list
pub flat-at : {A B : Type 0} (f : A → List B) (xs : List A) (i r k : ℕ) (x : A) → slice_get xs i ≡ Some x → r < length (f x)
    → k ≡ sum (take i (map (λ y. length (f y)) xs)) + r → slice_get (flat_map f xs) k ≡ slice_get (f x) r
flat-at f [] i r k x e h q = absurd (cc)
flat-at f (y ∷ ys) zero r k x e h q =
    let same : y ≡ x = cc in
    let here : k ≡ r = omega (arith, q) in
    rw (same, here) (get-front (f x) (flat_map f ys) r h)
flat-at f (y ∷ ys) (suc i) r k x e h q =
    get-right (f y) (flat_map f ys) (sum (take i (map (λ z. length (f z)) ys)) + r) k
    (omega (arith, q, sum-cons (length (f y)) (take i (map (λ z. length (f z)) ys))))
    ∙ flat-at f ys i r (sum (take i (map (λ z. length (f z)) ys)) + r) x e h refl
