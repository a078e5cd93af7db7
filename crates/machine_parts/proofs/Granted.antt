-- The messages of a kind on a link, counted one after another by their numbers.
use Rattle.std.proofs.Common.{◌≡◌, ℕ, zero, suc, ◌+◌, ◌<◌, ◌≤◌, List, [], ◌∷◌, ◌++◌, length, take, Option, Some, None}
use Rattle.std.proofs.Common.{refl, ap, ◌∙◌, arith}
use Rattle.std.specs.Prelude.{if◌then◌else◌, is_some, slice_get, slice_index_or}
use Rattle.rules_maps.specs.Nodes.{Msg}
use Rattle.rules_maps.specs.Words.{num, those}
use Rattle.rules_tcc.specs.State.{Link}
use Rattle.theorem_serial.specs.Count.{Kind, live, passes}

abbrev pub num_at : Kind → Option Msg → ℕ
num_at k None = 0
num_at k (Some m) = num (passes k m)

-- of the messages with these numbers
unfoldable pub counted : Kind → Link → List ℕ → ℕ
counted k l [] = 0
counted k l (n ∷ ns) = num_at k (slice_index_or l n None) + counted k l ns

pub counted-append : (k : Kind) (l : Link) (ns ms : List ℕ) → counted k l (ns ++ ms) ≡ counted k l ns + counted k l ms
unfolding counted
counted-append k l [] ms = omega arith
counted-append k l (n ∷ ns) ms = omega (arith, counted-append k l ns ms)

pub take-next : {A : Type 0} → (xs : List A) (i : ℕ) (x : A) → slice_get xs i ≡ Some x → take (suc i) xs ≡ take i xs ++ x ∷ []
take-next [] i x e = absurd (cc)
take-next (y ∷ ys) zero x e = let same : y ≡ x = cc in ap (λ z. z ∷ []) same
take-next (y ∷ ys) (suc i) x e = ap (λ zs. y ∷ zs) (take-next ys i x e)

-- one more
pub counted-next : (k : Kind) (l : Link) (ns : List ℕ) (i q : ℕ) (m : Msg) → slice_get ns i ≡ Some q → slice_index_or l q None ≡ Some m
    → counted k l (take (i + 1) ns) ≡ counted k l (take i ns) + num (passes k m)
unfolding counted
counted-next k l ns i q m at own =
    let next : i + 1 ≡ suc i = omega arith in
    let last : num_at k (slice_index_or l q None) ≡ num (passes k m) = ap (num_at k) own in
    let parts = ap (counted k l) (ap (λ n. take n ns) next ∙ take-next ns i q at) ∙ counted-append k l (take i ns) (q ∷ []) in
    omega (arith, parts, last)

live-take : (k : Kind) (l : Link) (n : ℕ) → n < length l → live k (take (suc n) l) ≡ live k (take n l) + num_at k (slice_index_or l n None)
unfolding live
live-take k [] n h = absurd (omega (arith, h))
live-take k (None ∷ l) zero h = refl
live-take k (Some m ∷ l) zero h = omega arith
live-take k (None ∷ l) (suc n) h = live-take k l n (omega (arith, h))
live-take k (Some m ∷ l) (suc n) h = omega (arith, live-take k l n (omega (arith, h)))

counted-those : (k : Kind) (l : Link) (n : ℕ) → n ≤ length l
    → counted k l (those (λ i. is_some (slice_index_or l i None)) n) ≡ live k (take n l)
unfolding those live counted
counted-those k l zero h = refl
counted-those k l (suc n) h =
    go (counted-those k l n (omega (arith, h))) (slice_index_or l n None) refl
  where
    go : counted k l (those (λ i. is_some (slice_index_or l i None)) n) ≡ live k (take n l) → (o : Option Msg) → slice_index_or l n None ≡ o
        → counted k l (those (λ i. is_some (slice_index_or l i None)) n ++ (if is_some (slice_index_or l n None) then n ∷ [] else []))
        ≡ live k (take (suc n) l)
    go before None e =
        let last = ap (num_at k) e in
        let all = live-take k l n (omega (arith, h)) in
        let parts = counted-append k l (those (λ i. is_some (slice_index_or l i None)) n) [] in
        ap (λ b. counted k l (those (λ i. is_some (slice_index_or l i None)) n ++ (if b then n ∷ [] else []))) (ap is_some e)
        ∙ omega (arith, parts, before, all, last)
    go before (Some m) e =
        let last = ap (num_at k) e in
        let all = live-take k l n (omega (arith, h)) in
        let parts = counted-append k l (those (λ i. is_some (slice_index_or l i None)) n) (n ∷ []) in
        ap (λ b. counted k l (those (λ i. is_some (slice_index_or l i None)) n ++ (if b then n ∷ [] else []))) (ap is_some e)
        ∙ omega (arith, parts, before, all, last)

take-all : {A : Type 0} → (xs : List A) → take (length xs) xs ≡ xs
take-all [] = refl
take-all (x ∷ xs) = ap (λ ys. x ∷ ys) (take-all xs)

-- and all
pub counted-all : (k : Kind) (l : Link) → counted k l (those (λ i. is_some (slice_index_or l i None)) (length l)) ≡ live k l
counted-all k l = counted-those k l (length l) (omega arith) ∙ ap (live k) (take-all l)

pub take-most : {A : Type 0} → (xs : List A) (n : ℕ) → length xs ≤ n → take n xs ≡ xs
take-most [] zero l = refl
take-most [] (suc n) l = refl
take-most (x ∷ xs) zero l = absurd (omega (arith, l))
take-most (x ∷ xs) (suc n) l = ap (λ ys. x ∷ ys) (take-most xs n (omega (arith, l)))

-- the first ones are no more than all
pub counted-most : (k : Kind) (l : Link) (n : ℕ) (ns : List ℕ) → counted k l (take n ns) ≤ counted k l ns
unfolding counted
counted-most k l zero ns = omega arith
counted-most k l (suc n) [] = omega arith
counted-most k l (suc n) (m ∷ ns) = omega (arith, counted-most k l n ns)
