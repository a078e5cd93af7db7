-- What changed between lists that each are two pieces, one before a key and one from it on, is what changed piece by piece.
use Rattle.std.proofs.Common.{◌≡◌, ℕ, zero, suc, Bool, true, false, cond, List, [], ◌∷◌, ◌++◌, append-nil}
use Rattle.std.proofs.Common.{refl, ap, sym, ◌∙◌}
use Rattle.std.specs.List.{flat_map}
use Rattle.std.proofs.lemmas.List.Concat.{flat_map-append}
use Rattle.rules_maps.specs.Words.{those}
use Rattle.rules_tcc.specs.Seen.{numbers}
use Rattle.watch_state.specs.Records.{Record}
use Rattle.watch_changes.specs.Changes.{Change, Told, Gone, Meeting, Unchanged, Left, Came, Changed, changes, meeting, told_of}
use Rattle.watch_changes.specs.Order.{key, lower}
use Rattle.watch_changes.specs.Same.{same}
use Rattle.watch_changes.proofs.Compared.{same-is}
use Rattle.watch_changes.proofs.Lowering.{lower-not, lower-self}
use Rattle.watch_changes.proofs.Ordering.{AreBelow, AreFrom, IsUpTo, Lie, lie-those, lower-up-to}

-- records with other keys aren't the same
apart : (b a : Record) → lower (key b) (key a) ≡ true → same b a ≡ false
apart b a h = go (same b a) refl
  where
    go : (t : Bool) → same b a ≡ t → t ≡ false
    go false e = refl
    go true e = absurd (
        let one : lower (key b) (key a) ≡ false = ap (λ r. lower (key b) (key r)) (sym (same-is b a e)) ∙ lower-self (key b) in
        cc
        )

left-met : (b a : Record) → lower (key b) (key a) ≡ true → meeting b a ≡ Left
unfolding meeting
left-met b a h = rw (apart b a h, h) refl

came-met : (b a : Record) → lower (key a) (key b) ≡ true → meeting b a ≡ Came
unfolding meeting
came-met b a h =
    let other : same b a ≡ false = go (same b a) refl in
    let not : lower (key b) (key a) ≡ false = lower-not (key a) (key b) h in
    rw (other, not, h) refl
  where
    go : (t : Bool) → same b a ≡ t → t ≡ false
    go false e = refl
    go true e = absurd (
        let one : lower (key a) (key b) ≡ false = ap (λ r. lower (key a) (key r)) (same-is b a e) ∙ lower-self (key a) in
        cc
        )

-- a record that comes before all that were is told first
came-first : (l : List ℕ) (x : Record) (bs ns : List Record) → lower (key x) l ≡ true → AreFrom l bs
    → changes bs (x ∷ ns) ≡ Told x ∷ changes bs ns
unfolding changes
came-first l x [] ns h f = refl
came-first l x (y ∷ bs) ns h f =
    ap (λ m. told_of m y x (changes bs ns) (changes bs (x ∷ ns)) (changes (y ∷ bs) ns)) (came-met y x (lower-up-to (key x) l (key y) h f.0))

-- one that was before all that are is gone first
gone-first : (l : List ℕ) (x : Record) (bs ns : List Record) → lower (key x) l ≡ true → AreFrom l ns
    → changes (x ∷ bs) ns ≡ Gone x ∷ changes bs ns
unfolding changes
gone-first l x [] [] h f = refl
gone-first l x (y ∷ bs) [] h f = refl
gone-first l x bs (z ∷ ns) h f =
    ap (λ m. told_of m x z (changes bs ns) (changes bs (z ∷ ns)) (changes (x ∷ bs) ns)) (left-met x z (lower-up-to (key x) l (key z) h f.0))

told-then : (m : Meeting) (b a : Record) (p q r z : List Change) → told_of m b a (p ++ z) (q ++ z) (r ++ z) ≡ told_of m b a p q r ++ z
told-then Unchanged b a p q r z = refl
told-then Left b a p q r z = refl
told-then Came b a p q r z = refl
told-then Changed b a p q r z = refl

pub changes-append : (l : List ℕ) (xs cs bs ds : List Record) → AreBelow l xs → AreBelow l cs → AreFrom l bs → AreFrom l ds
    → changes (xs ++ bs) (cs ++ ds) ≡ changes xs cs ++ changes bs ds
unfolding changes
changes-append l [] [] bs ds x y f g = refl
changes-append l [] (c ∷ cs) bs ds x y f g =
    came-first l c bs (cs ++ ds) y.0 f ∙ ap (λ t. Told c ∷ t) (changes-append l [] cs bs ds x y.1 f g)
changes-append l (a ∷ xs) [] bs ds x y f g =
    gone-first l a (xs ++ bs) ds x.0 g ∙ ap (λ t. Gone a ∷ t) (changes-append l xs [] bs ds x.1 y f g)
    ∙ ap (λ t. t ++ changes bs ds) (sym (gone-first l a xs [] x.0 (record {})))
changes-append l (a ∷ xs) (c ∷ cs) bs ds x y f g =
    (λ i. told_of (meeting a c) a c (changes-append l xs cs bs ds x.1 y.1 f g i) (changes-append l xs (c ∷ cs) bs ds x.1 y f g i)
    (changes-append l (a ∷ xs) cs bs ds x y.1 f g i))
    ∙ told-then (meeting a c) a c (changes xs cs) (changes xs (c ∷ cs)) (changes (a ∷ xs) cs) (changes bs ds)

-- ---- pieces by number

-- a piece may be left out
abbrev pub only : (b : Bool) → List Record → List Record
only b rs = cond b rs []

those-next : (f : ℕ → List Record) (p : ℕ → Bool) (n : ℕ) → flat_map f (those p (suc n)) ≡ flat_map f (those p n) ++ only (p n) (f n)
unfolding those
those-next f p n = flat_map-append f (those p n) (cond (p n) (n ∷ []) []) ∙ ap (λ ys. flat_map f (those p n) ++ ys) (last (p n))
  where
    last : (b : Bool) → flat_map f (cond b (n ∷ []) []) ≡ only b (f n)
    last true = append-nil (f n)
    last false = refl

no-changes : changes [] [] ≡ []
unfolding changes
no-changes = refl

only-from : (k l : List ℕ) (b : Bool) (rs : List Record) → Lie k l rs → AreFrom k (only b rs)
only-from k l true rs w = w.from
only-from k l false rs w = record {}

-- pieces that each lie between the keys of their numbers: those of which nothing changed may be left out
pub changes-those : (f g : ℕ → List Record) (k : ℕ → List ℕ) (p : ℕ → Bool) → ((n : ℕ) → IsUpTo (k n) (k (suc n)))
    → ((j : ℕ) → Lie (k j) (k (suc j)) (f j)) → ((j : ℕ) → Lie (k j) (k (suc j)) (g j))
    → ((j : ℕ) → p j ≡ false → changes (f j) (g j) ≡ []) → (n : ℕ)
    → changes (flat_map f (numbers n)) (flat_map g (numbers n)) ≡ changes (flat_map f (those p n)) (flat_map g (those p n))
unfolding those
changes-those f g k p up lf lg none zero = refl
changes-those f g k p up lf lg none (suc n) =
    step (λ j. true) ∙ (λ i. changes-those f g k p up lf lg none n i ++ last (p n) refl i) ∙ sym (step p)
  where
    step : (q : ℕ → Bool) → changes (flat_map f (those q (suc n))) (flat_map g (those q (suc n)))
        ≡ changes (flat_map f (those q n)) (flat_map g (those q n)) ++ changes (only (q n) (f n)) (only (q n) (g n))
    step q =
        (λ i. changes (those-next f q n i) (those-next g q n i))
        ∙ changes-append (k n) (flat_map f (those q n)) (flat_map g (those q n)) (only (q n) (f n)) (only (q n) (g n))
        (lie-those f k q up n (λ j b. lf j)).below (lie-those g k q up n (λ j b. lg j)).below
        (only-from (k n) (k (suc n)) (q n) (f n) (lf n)) (only-from (k n) (k (suc n)) (q n) (g n) (lg n))

    last : (b : Bool) → p n ≡ b → changes (f n) (g n) ≡ changes (only b (f n)) (only b (g n))
    last true e = refl
    last false e = none n e ∙ sym no-changes
