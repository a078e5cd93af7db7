-- Lists of records that lie between two keys, piece by piece.
use Rattle.std.proofs.Common.{◌≡◌, ℕ, zero, suc, ◌<◌, Bool, true, false, cond, List, [], ◌∷◌, ◌++◌}
use Rattle.std.proofs.Common.{refl, ap, subst, sym, ◌∙◌, arith}
use Rattle.std.specs.List.{flat_map}
use Rattle.std.proofs.lemmas.List.Concat.{flat_map-append}
use Rattle.std.proofs.Common.{append-nil}
use Rattle.rules_maps.specs.Words.{those}
use Rattle.rules_tcc.specs.Seen.{numbers}
use Rattle.watch_state.specs.Records.{Record}
use Rattle.watch_changes.specs.Order.{AreBehind, AreOrdered, key, lower}
use Rattle.watch_changes.proofs.Lowering.{lower-neither, lower-not, lower-self, lower-then}

-- not above
abbrev pub IsUpTo : (k l : List ℕ) → Type 0
IsUpTo k l = lower l k ≡ false

-- none is below this key
abbrev pub AreFrom : (k : List ℕ) → List Record → Type 0
AreFrom k [] = Unit {0}
AreFrom k (r ∷ rs) = IsUpTo k (key r) × AreFrom k rs

-- all are below this key
abbrev pub AreBelow : (l : List ℕ) → List Record → Type 0
AreBelow l [] = Unit {0}
AreBelow l (r ∷ rs) = (lower (key r) l ≡ true) × AreBelow l rs

-- they are ordered, none is below the one key, and all are below the other
pub record Lie (k l : List ℕ) (rs : List Record) : Type 0 where
  pub ordered : AreOrdered rs
  pub from : AreFrom k rs
  pub below : AreBelow l rs

-- ---- keys

pub up-to-self : (k : List ℕ) → IsUpTo k k
up-to-self k = lower-self k

pub lower-up-to : (k l m : List ℕ) → lower k l ≡ true → IsUpTo l m → lower k m ≡ true
lower-up-to k l m h u = go (lower l m) refl
  where
    go : (b : Bool) → lower l m ≡ b → lower k m ≡ true
    go true e = lower-then k l m h e
    go false e = ap (λ j. lower k j) (sym (lower-neither l m e u)) ∙ h

pub up-to-up-to : (k l m : List ℕ) → IsUpTo k l → IsUpTo l m → IsUpTo k m
up-to-up-to k l m u v = go (lower m k) refl
  where
    go : (b : Bool) → lower m k ≡ b → b ≡ false
    go false e = refl
    go true e = absurd (let round : lower m l ≡ true = lower-up-to m k l e u in cc)

pub lower-is-up-to : (k l : List ℕ) → lower k l ≡ true → IsUpTo k l
lower-is-up-to k l h = lower-not k l h

-- ---- lists

from-from : (j k : List ℕ) (rs : List Record) → IsUpTo j k → AreFrom k rs → AreFrom j rs
from-from j k [] u f = f
from-from j k (r ∷ rs) u f = (up-to-up-to j k (key r) u f.0, from-from j k rs u f.1)

below-below : (l m : List ℕ) (rs : List Record) → IsUpTo l m → AreBelow l rs → AreBelow m rs
below-below l m [] u b = b
below-below l m (r ∷ rs) u b = (lower-up-to (key r) l m b.0 u, below-below l m rs u b.1)

pub widened : (j k l m : List ℕ) (rs : List Record) → IsUpTo j k → IsUpTo l m → Lie k l rs → Lie j m rs
widened j k l m rs u v w = record {
  ordered = w.ordered;
  from = from-from j k rs u w.from;
  below = below-below l m rs v w.below;
}

pub lie-none : (k l : List ℕ) → Lie k l []
lie-none k l = record { ordered = record {}; from = record {}; below = record {} }

pub lie-one : (k l : List ℕ) (r : Record) → IsUpTo k (key r) → lower (key r) l ≡ true → Lie k l (r ∷ [])
lie-one k l r u h = record { ordered = (record {}, record {}); from = (u, record {}); below = (h, record {}) }

from-append : (k : List ℕ) (rs ss : List Record) → AreFrom k rs → AreFrom k ss → AreFrom k (rs ++ ss)
from-append k [] ss f g = g
from-append k (r ∷ rs) ss f g = (f.0, from-append k rs ss f.1 g)

below-append : (l : List ℕ) (rs ss : List Record) → AreBelow l rs → AreBelow l ss → AreBelow l (rs ++ ss)
below-append l [] ss f g = g
below-append l (r ∷ rs) ss f g = (f.0, below-append l rs ss f.1 g)

behind-from : (j l : List ℕ) (ss : List Record) → lower j l ≡ true → AreFrom l ss → AreBehind j ss
behind-from j l [] h f = f
behind-from j l (s ∷ ss) h f = (lower-up-to j l (key s) h f.0, behind-from j l ss h f.1)

behind-append : (j : List ℕ) (rs ss : List Record) → AreBehind j rs → AreBehind j ss → AreBehind j (rs ++ ss)
behind-append j [] ss f g = g
behind-append j (r ∷ rs) ss f g = (f.0, behind-append j rs ss f.1 g)

ordered-append : (l : List ℕ) (rs ss : List Record) → AreOrdered rs → AreBelow l rs → AreFrom l ss → AreOrdered ss → AreOrdered (rs ++ ss)
ordered-append l [] ss o b f p = p
ordered-append l (r ∷ rs) ss o b f p =
    (behind-append (key r) rs ss o.0 (behind-from (key r) l ss b.0 f), ordered-append l rs ss o.1 b.1 f p)

pub lie-append : (k l m : List ℕ) (rs ss : List Record) → IsUpTo k l → IsUpTo l m → Lie k l rs → Lie l m ss → Lie k m (rs ++ ss)
lie-append k l m rs ss u v a b = record {
  ordered = ordered-append l rs ss a.ordered a.below b.from b.ordered;
  from = from-append k rs ss a.from (from-from k l ss u b.from);
  below = below-append m rs ss (below-below l m rs v a.below) b.below;
}

-- ---- pieces by number, each between the key of its number and that of the next

-- of the numbers with a property
pub lie-those : (f : ℕ → List Record) (k : ℕ → List ℕ) (p : ℕ → Bool) → ((n : ℕ) → IsUpTo (k n) (k (suc n)))
    → (n : ℕ) → ((j : ℕ) → j < n → Lie (k j) (k (suc j)) (f j)) → Lie (k zero) (k n) (flat_map f (those p n))
unfolding those
lie-those f k p up zero h = lie-none (k zero) (k zero)
lie-those f k p up (suc n) h =
    subst (λ rs. Lie (k zero) (k (suc n)) rs) (sym (flat_map-append f (those p n) (cond (p n) (n ∷ []) [])))
    (lie-append (k zero) (k n) (k (suc n)) (flat_map f (those p n)) (flat_map f (cond (p n) (n ∷ []) [])) (first n) (up n)
    (lie-those f k p up n (λ j b. h j (omega (arith, b)))) (last (p n)))
  where
    first : (m : ℕ) → IsUpTo (k zero) (k m)
    first zero = up-to-self (k zero)
    first (suc m) = up-to-up-to (k zero) (k m) (k (suc m)) (first m) (up m)

    last : (b : Bool) → Lie (k n) (k (suc n)) (flat_map f (cond b (n ∷ []) []))
    last true = subst (λ rs. Lie (k n) (k (suc n)) rs) (sym (append-nil (f n))) (h n (omega arith))
    last false = lie-none (k n) (k (suc n))

-- of all numbers
pub lie-numbers : (f : ℕ → List Record) (k : ℕ → List ℕ) → ((n : ℕ) → IsUpTo (k n) (k (suc n)))
    → (n : ℕ) → ((j : ℕ) → j < n → Lie (k j) (k (suc j)) (f j)) → Lie (k zero) (k n) (flat_map f (numbers n))
lie-numbers f k up n h = lie-those f k (λ j. true) up n h
