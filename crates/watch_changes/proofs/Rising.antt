-- Keys of kinds and numbers, and lists of at most one record.
use Rattle.std.proofs.Common.{◌≡◌, ℕ, ◌<◌, ◌≤◌, ◌==◌, nat_lt, Bool, true, false, if◌then◌else◌, List, [], ◌∷◌}
use Rattle.std.proofs.Common.{refl, ap, ◌∙◌, arith}
use Rattle.std.proofs.lemmas.Bool.Decides.{nat_tests}
use Rattle.watch_state.specs.Records.{Record}
use Rattle.watch_changes.specs.Order.{key, lower}
use Rattle.watch_changes.proofs.Lowering.{lower-self}
use Rattle.watch_changes.proofs.Ordering.{IsUpTo, Lie, lie-none, lie-one, lower-is-up-to}

-- the first numbers decide where one is below the other
pub head-lower : (x y : ℕ) (xs ys : List ℕ) → x < y → lower (x ∷ xs) (y ∷ ys) ≡ true
unfolding lower
head-lower x y xs ys b =
    let apart : (x == y) ≡ false = grind (arith, nat_tests) in
    let less : nat_lt x y ≡ true = grind (arith, nat_tests) in
    rw apart less

-- and where they are the same the others do
pub tail-lower : (x : ℕ) (xs ys : List ℕ) → lower (x ∷ xs) (x ∷ ys) ≡ lower xs ys
unfolding lower
tail-lower x xs ys =
    let one : (x == x) ≡ true = grind (arith, nat_tests) in
    rw one refl

-- a smaller number, or the same and the same behind it
pub head-up-to : (x y : ℕ) (xs : List ℕ) → x ≤ y → IsUpTo (x ∷ xs) (y ∷ xs)
unfolding lower
head-up-to x y xs b = go (y == x) refl
  where
    go : (t : Bool) → (y == x) ≡ t → (if t then lower xs xs else nat_lt y x) ≡ false
    go true e = lower-self xs
    go false e = grind (arith, nat_tests)

pub kind-up-to : (x y : ℕ) (xs ys : List ℕ) → x < y → IsUpTo (x ∷ xs) (y ∷ ys)
kind-up-to x y xs ys b = lower-is-up-to (x ∷ xs) (y ∷ ys) (head-lower x y xs ys b)

-- numbers behind the kind, and behind the kind and one number more
pub second-lower : (n x y : ℕ) (xs ys : List ℕ) → x < y → lower (n ∷ x ∷ xs) (n ∷ y ∷ ys) ≡ true
second-lower n x y xs ys b = tail-lower n (x ∷ xs) (y ∷ ys) ∙ head-lower x y xs ys b

pub third-lower : (n c x y : ℕ) (xs ys : List ℕ) → x < y → lower (n ∷ c ∷ x ∷ xs) (n ∷ c ∷ y ∷ ys) ≡ true
third-lower n c x y xs ys b = tail-lower n (c ∷ x ∷ xs) (c ∷ y ∷ ys) ∙ second-lower c x y xs ys b

pub fourth-lower : (n c x y z : ℕ) → y < z → lower (n ∷ c ∷ x ∷ y ∷ []) (n ∷ c ∷ x ∷ z ∷ []) ≡ true
fourth-lower n c x y z b = tail-lower n (c ∷ x ∷ y ∷ []) (c ∷ x ∷ z ∷ []) ∙ third-lower c x y z [] [] b

pub second-up-to : (n x y : ℕ) (xs : List ℕ) → x ≤ y → IsUpTo (n ∷ x ∷ xs) (n ∷ y ∷ xs)
second-up-to n x y xs b = tail-lower n (y ∷ xs) (x ∷ xs) ∙ head-up-to x y xs b

pub third-up-to : (n c x y : ℕ) (xs : List ℕ) → x ≤ y → IsUpTo (n ∷ c ∷ x ∷ xs) (n ∷ c ∷ y ∷ xs)
third-up-to n c x y xs b = tail-lower n (c ∷ y ∷ xs) (c ∷ x ∷ xs) ∙ second-up-to c x y xs b

-- ---- at most one record

pub lie-if : (k l : List ℕ) (b : Bool) (rs : List Record) → Lie k l rs → Lie k l (if b then rs else [])
lie-if k l true rs w = w
lie-if k l false rs w = lie-none k l

pub lie-unless : (k l : List ℕ) (b : Bool) (rs : List Record) → Lie k l rs → Lie k l (if b then [] else rs)
lie-unless k l true rs w = lie-none k l
lie-unless k l false rs w = w

-- a record with the lower key
pub lie-at : (k l : List ℕ) (r : Record) → key r ≡ k → lower k l ≡ true → Lie k l (r ∷ [])
lie-at k l r e h = lie-one k l r (ap (λ j. lower j k) e ∙ lower-self k) (ap (λ j. lower j l) e ∙ h)
