-- A filter over the first elements of a list.
use Rattle.std.proofs.Common.{◌≡◌, ℕ, zero, suc, ◌+◌, ◌<◌, ◌≤◌, Bool, true, false, cond, List, [], ◌∷◌, length, take, get_or, Some}
use Rattle.std.proofs.Common.{ap, sym, ◌∙◌, arith}
use Rattle.std.specs.Prelude.{slice_get}
use Rattle.std.specs.List.{filter}
use Rattle.std.proofs.lemmas.List.{take_all}
use Rattle.std.proofs.lemmas.List.Filters.{length-filter_more}
use Rattle.std.proofs.lemmas.Option.{same_Some}

pub kept-below : {A : Type 0} (p : A → Bool) (xs : List A) (i : ℕ) → length (filter p (take i xs)) ≤ i
kept-below p xs zero = omega arith
kept-below p [] (suc i) = omega arith
kept-below p (x ∷ xs) (suc i) = one (p x) (kept-below p xs i)
  where
    one : (b : Bool) → length (filter p (take i xs)) ≤ i → length (cond b (x ∷ filter p (take i xs)) (filter p (take i xs))) ≤ suc i
    one true h = omega arith
    one false h = omega arith

-- one element more
pub count-more : {A : Type 0} (p : A → Bool) (xs : List A) (i n m : ℕ) (d : A) (b : Bool) → i < length xs
    → n ≡ length (filter p (take i xs))
    → p (get_or xs i d) ≡ b → m ≡ n + cond b 1 0 → m ≡ length (filter p (take (i + 1) xs))
count-more p xs i n m d b h e t f =
    f ∙ (ap (λ k. k + cond b 1 0) e ∙ (ap (λ c. length (filter p (take i xs)) + cond c 1 0) (sym t) ∙ sym (length-filter_more p xs i d h)))

pub count-all : {A : Type 0} (p : A → Bool) (xs : List A) (i n : ℕ) → length xs ≤ i → n ≡ length (filter p (take i xs))
    → n ≡ length (filter p xs)
count-all p xs i n h e = e ∙ ap (λ l. length (filter p l)) (take_all i xs h)

-- an element that passes stands behind those before it
pub kth-kept : {A : Type 0} (p : A → Bool) (xs : List A) (i : ℕ) (x : A) → slice_get xs i ≡ Some x → p x ≡ true
    → slice_get (filter p xs) (length (filter p (take i xs))) ≡ Some x
kth-kept p [] i x h t = absurd (cc)
kth-kept p (y ∷ xs) zero x h t = let e : p y ≡ true = ap p (same_Some y x h) ∙ t in rw e h
kth-kept p (y ∷ xs) (suc i) x h t = one (p y) (kth-kept p xs i x h t)
  where
    one : (b : Bool) → slice_get (filter p xs) (length (filter p (take i xs))) ≡ Some x
        → slice_get (cond b (y ∷ filter p xs) (filter p xs)) (length (cond b (y ∷ filter p (take i xs)) (filter p (take i xs)))) ≡ Some x
    one true g = g
    one false g = g
