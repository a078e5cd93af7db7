-- The messages that wait at all ports, one port after another.
use Rattle.std.proofs.Common.{◌≡◌, ℕ, zero, suc, ◌+◌, List, [], ◌∷◌, length, take, Some, length-append, refl}
use Rattle.std.proofs.Common.{◌∙◌, arith}
use Rattle.std.specs.Prelude.{slice_get}
use Rattle.std.specs.List.{flat_map}
use Rattle.std.proofs.lemmas.Option.{same_Some}
use Rattle.base_lemmas.proofs.Lemmas.{get-after}
use Rattle.apart_node.proofs.Running.Stored.{get-behind}

-- one list more
pub flat-more : {A B : Type 0} (f : A → List B) (xs : List A) (i : ℕ) (x : A) → slice_get xs i ≡ Some x
    → length (flat_map f (take (suc i) xs)) ≡ length (flat_map f (take i xs)) + length (f x)
flat-more f [] i x h = absurd (cc)
flat-more f (y ∷ xs) zero x h = let e : y ≡ x = same_Some y x h in rw e (omega (arith, length-append (f x) []))
flat-more f (y ∷ xs) (suc i) x h =
    omega (arith, flat-more f xs i x h, length-append (f y) (flat_map f (take (suc i) xs)), length-append (f y) (flat_map f (take i xs)))

-- an element of the i-th list
pub flat-kth : {A B : Type 0} (f : A → List B) (xs : List A) (i r k : ℕ) (x : A) (y : B) → slice_get xs i ≡ Some x
    → slice_get (f x) r ≡ Some y
    → k ≡ length (flat_map f (take i xs)) + r → slice_get (flat_map f xs) k ≡ Some y
flat-kth f [] i r k x y h g e = absurd (cc)
flat-kth f (z ∷ xs) zero r k x y h g e =
    let s : z ≡ x = same_Some z x h in
    let q : k ≡ r = omega (arith, e) in
    rw (s, q) (get-behind (f x) (flat_map f xs) r y g)
flat-kth f (z ∷ xs) (suc i) r k x y h g e =
    let n = length-append (f z) (flat_map f (take i xs)) in
    get-after (f z) (flat_map f xs) k (length (flat_map f (take i xs)) + r) (omega (arith, e, n))
    ∙ flat-kth f xs i r (length (flat_map f (take i xs)) + r) x y h g refl
