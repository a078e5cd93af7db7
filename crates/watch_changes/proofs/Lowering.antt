-- The order of keys is strict and total, and numbers that are alike are the same.
use Rattle.std.proofs.Common.{◌≡◌, ℕ, Bool, true, false, List, [], ◌∷◌, refl, arith}
use Rattle.std.proofs.lemmas.Bool.Decides.{nat_tests}
use Rattle.base_lemmas.proofs.Lemmas.{eq-self}
use Rattle.watch_changes.specs.Order.{lower}
use Rattle.watch_changes.specs.Same.{alike}

pub lower-self : (xs : List ℕ) → lower xs xs ≡ false
unfolding lower
lower-self [] = refl
lower-self (x ∷ xs) = rw (eq-self x) (lower-self xs)

pub lower-then : (xs ys zs : List ℕ) → lower xs ys ≡ true → lower ys zs ≡ true → lower xs zs ≡ true
unfolding lower
lower-then [] [] zs p q = absurd (cc)
lower-then [] (y ∷ ys) [] p q = absurd (cc)
lower-then [] (y ∷ ys) (z ∷ zs) p q = refl
lower-then (x ∷ xs) [] zs p q = absurd (cc)
lower-then (x ∷ xs) (y ∷ ys) [] p q = absurd (cc)
lower-then (x ∷ xs) (y ∷ ys) (z ∷ zs) p q =
    let ih : lower xs ys ≡ true → lower ys zs ≡ true → lower xs zs ≡ true = lower-then xs ys zs in
    grind (arith, nat_tests)

pub lower-not : (xs ys : List ℕ) → lower xs ys ≡ true → lower ys xs ≡ false
lower-not xs ys p = go (lower ys xs) refl
  where
    go : (b : Bool) → lower ys xs ≡ b → b ≡ false
    go false e = refl
    go true e = absurd (let round : lower xs xs ≡ true = lower-then xs ys xs p e in let none = lower-self xs in cc)

pub lower-neither : (xs ys : List ℕ) → lower xs ys ≡ false → lower ys xs ≡ false → xs ≡ ys
unfolding lower
lower-neither [] [] p q = refl
lower-neither [] (y ∷ ys) p q = absurd (cc)
lower-neither (x ∷ xs) [] p q = absurd (cc)
lower-neither (x ∷ xs) (y ∷ ys) p q =
    let ih : lower xs ys ≡ false → lower ys xs ≡ false → xs ≡ ys = lower-neither xs ys in
    grind (arith, nat_tests)

pub alike-self : (xs : List ℕ) → alike xs xs ≡ true
unfolding alike
alike-self [] = refl
alike-self (x ∷ xs) = rw (eq-self x) (alike-self xs)

pub alike-is : (xs ys : List ℕ) → alike xs ys ≡ true → xs ≡ ys
unfolding alike
alike-is [] [] e = refl
alike-is [] (y ∷ ys) e = absurd (cc)
alike-is (x ∷ xs) [] e = absurd (cc)
alike-is (x ∷ xs) (y ∷ ys) e =
    let ih : alike xs ys ≡ true → xs ≡ ys = alike-is xs ys in
    grind (arith, nat_tests)
