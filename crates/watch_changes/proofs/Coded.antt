-- The code's tests of sets and words are those of the definitions: the numbers of a set decide it.
use Rattle.std.proofs.Common.{◌≡◌, ℕ, zero, suc, ◌<◌, ◌≤◌, ◌^◌, ◌==◌, ◌||◌, ◌&&◌, Bool, true, false, cond, List, [], ◌∷◌, ◌++◌}
use Rattle.std.proofs.Common.{IsTrue, ◌↔◌, refl, ap, sym, ◌∙◌, arith}
use Rattle.std.specs.Int.{bit_at}
use Rattle.std.proofs.lemmas.Bool.Decides.{nat_tests}
use Rattle.std.proofs.lemmas.Nat.Bits.{bit_at-lt, same_from_bits_below}
use Rattle.base_lemmas.proofs.Lemmas.{eq-true}
use Rattle.rules_maps.specs.Masks.{has}
use Rattle.rules_maps.specs.Words.{those}
use Rattle.watch_state.specs.Records.{Frame, Holds}
use Rattle.watch_changes.specs.Same.{alike, frame_numbers, same}
use Rattle.watch_changes.proofs.Lowering.{alike-is, alike-self}

-- ---- the numbers of a set decide it

is_in : ℕ → List ℕ → Bool
is_in k [] = false
is_in k (x ∷ xs) = k == x || is_in k xs

in-append : (k : ℕ) (xs ys : List ℕ) → is_in k (xs ++ ys) ≡ (is_in k xs || is_in k ys)
unfolding is_in
in-append k [] ys = refl
in-append k (x ∷ xs) ys = rw (in-append k xs ys) (go (k == x))
  where
    go : (b : Bool) → (b || (is_in k xs || is_in k ys)) ≡ ((b || is_in k xs) || is_in k ys)
    go true = refl
    go false = refl

last-in : (k n : ℕ) (b : Bool) → is_in k (cond b (n ∷ []) []) ≡ ((k == n) && b)
unfolding is_in
last-in k n true = go (k == n)
  where
    go : (t : Bool) → (t || false) ≡ (t && true)
    go true = refl
    go false = refl
last-in k n false = go (k == n)
  where
    go : (t : Bool) → false ≡ (t && false)
    go true = refl
    go false = refl

past-those : (p : ℕ → Bool) (n k : ℕ) → n ≤ k → is_in k (those p n) ≡ false
unfolding those is_in
past-those p zero k b = refl
past-those p (suc n) k b =
    let apart : (k == n) ≡ false = grind (arith, nat_tests) in
    in-append k (those p n) (cond (p n) (n ∷ []) [])
    ∙ rw (past-those p n k (omega (arith, b)), last-in k n (p n), apart) refl

at-last : (p : ℕ → Bool) (n k : ℕ) → k < suc n → (k < n → is_in k (those p n) ≡ p k) → (t : Bool) → (k == n) ≡ t
    → (is_in k (those p n) || (t && p n)) ≡ p k
at-last p n k b ih true e =
    let one : n ≡ k = grind (arith, nat_tests) in
    rw (past-those p n k (omega (arith, one))) (ap p one)
at-last p n k b ih false e = or-none (is_in k (those p n)) ∙ ih (grind (arith, nat_tests))
  where
    or-none : (t : Bool) → (t || false) ≡ t
    or-none true = refl
    or-none false = refl

in-those : (p : ℕ → Bool) (n k : ℕ) → k < n → is_in k (those p n) ≡ p k
unfolding those
in-those p zero k b = absurd (omega (arith, b))
in-those p (suc n) k b =
    in-append k (those p n) (cond (p n) (n ∷ []) []) ∙ rw (last-in k n (p n)) (at-last p n k b (in-those p n k) (k == n) refl)

-- a set of numbers below 64, by its numbers
set-same : (a b : ℕ) → a < 2 ^ 64 → b < 2 ^ 64 → those (has a) 64 ≡ those (has b) 64 → a ≡ b
unfolding has
set-same a b small tiny e = same_from_bits_below 64 a b small tiny (λ k h. bit k (in-both k h))
  where
    in-both : (k : ℕ) → k < 64 → (1 == bit_at a k) ≡ (1 == bit_at b k)
    in-both k h =
        sym (in-those (λ j. 1 == bit_at a j) 64 k h) ∙ ap (is_in k) e ∙ in-those (λ j. 1 == bit_at b j) 64 k h

    bit : (k : ℕ) → (1 == bit_at a k) ≡ (1 == bit_at b k) → bit_at a k ≡ bit_at b k
    bit k q =
        let x = bit_at-lt a k in
        let y = bit_at-lt b k in
        grind (arith, nat_tests)

-- ---- the code's tests are those of the definitions

pub set-test : (a b : ℕ) → a < 2 ^ 64 → b < 2 ^ 64 → (a == b) ≡ alike (those (has a) 64) (those (has b) 64)
set-test a b small tiny = go (a == b) refl (alike (those (has a) 64) (those (has b) 64)) refl
  where
    go : (t : Bool) → (a == b) ≡ t → (u : Bool) → alike (those (has a) 64) (those (has b) 64) ≡ u → t ≡ u
    go true e true q = refl
    go false e false q = refl
    go true e false q =
        let one : a ≡ b = grind (arith, nat_tests) in
        sym (alike-self (those (has a) 64)) ∙ ap (λ k. alike (those (has a) 64) (those (has k) 64)) one ∙ q
    go false e true q = sym e ∙ eq-true a b (set-same a b small tiny (alike-is (those (has a) 64) (those (has b) 64) q))

pub equal-test : (xs ys : List ℕ) (r : Bool) → (IsTrue r ↔ (xs ≡ ys)) → r ≡ alike xs ys
equal-test xs ys true h = sym (alike-self xs) ∙ ap (λ zs. alike xs zs) (h.0 refl)
equal-test xs ys false h = go (alike xs ys) refl
  where
    go : (t : Bool) → alike xs ys ≡ t → false ≡ t
    go false e = refl
    go true e = h.1 (alike-is xs ys e)

-- a frame of one way, and another one
pub holds-alike : (c x y d z w : ℕ) (f g : Frame) → (c == d && (x == z && y == w)) ≡ true
    → alike (frame_numbers f) (frame_numbers g) ≡ same (Holds c x y f) (Holds d z w g)
unfolding same alike
holds-alike c x y d z w f g e = go (c == d) (x == z) (y == w) (alike (frame_numbers f) (frame_numbers g)) e
  where
    go : (p q r a : Bool) → (p && (q && r)) ≡ true → a ≡ (p && (q && (r && a)))
    go true true true a h = refl
    go true true false a h = absurd (cc)
    go true false r a h = absurd (cc)
    go false q r a h = absurd (cc)
