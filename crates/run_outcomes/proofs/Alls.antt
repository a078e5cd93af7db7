-- What holds of each element of joined and mapped lists.
use Rattle.std.proofs.Common.{ℕ, ◌≡◌, List, [], ◌∷◌, ◌++◌, map, All, Contains, inl, inr, ◌⊎◌, subst}
use Rattle.std.proofs.lemmas.Bool.Decides.{eqb_tells}
use Rattle.std.proofs.lemmas.List.Elements.{All-nil, All-cons, All-head, All-tail, All-contains, All-contains_itself}
use Rattle.std.proofs.lemmas.List.Elements.{Contains-push, Contains-append_right}

pub All-last : {X : Type 0} (P : X → Type 0) (xs : List X) (x : X) → All P (xs ++ x ∷ []) → P x
All-last P xs x all = All-contains P (xs ++ x ∷ []) x all (Contains-push xs x)

pub All-front : {X : Type 0} (P : X → Type 0) (xs ys : List X) → All P (xs ++ ys) → All P xs
All-front P [] ys all = All-nil P
All-front P (x ∷ xs) ys all =
    All-cons P x xs (All-head P x (xs ++ ys) all) (All-front P xs ys (All-tail P x (xs ++ ys) all))

pub All-back : {X : Type 0} (P : X → Type 0) (xs ys : List X) → All P (xs ++ ys) → All P ys
All-back P [] ys all = all
All-back P (x ∷ xs) ys all = All-back P xs ys (All-tail P x (xs ++ ys) all)

pub All-unmap : {X Y : Type 0} (P : Y → Type 0) (f : X → Y) (xs : List X) → All P (map f xs) → All (λ x. P (f x)) xs
All-unmap P f [] all = All-nil (λ x. P (f x))
All-unmap P f (x ∷ xs) all =
    All-cons (λ y. P (f y)) x xs (All-head P (f x) (map f xs) all) (All-unmap P f xs (All-tail P (f x) (map f xs) all))

-- a number stands in a list, or is none of it
pub contains-or : (xs : List ℕ) (w : ℕ) → Contains xs w ⊎ All (λ x. x ≡ w → ⊥) xs
contains-or [] w = inr (All-nil (λ x. x ≡ w → ⊥))
contains-or (x ∷ xs) w =
    elim (eqb_tells x w) [
      | inl e ↦ inl (subst (λ v. Contains (x ∷ xs) v) e.1 (All-head (Contains (x ∷ xs)) x xs (All-contains_itself (x ∷ xs))))
      | inr e ↦ elim (contains-or xs w) [
        | inl h ↦ inl (Contains-append_right (x ∷ []) xs w h)
        | inr h ↦ inr (All-cons (λ y. y ≡ w → ⊥) x xs e.1 h)
      ]
    ]
