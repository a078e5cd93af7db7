-- A list laid out from a function: its length, its elements, and the list after one of them has changed.
use Rattle.std.proofs.Common.{◌≡◌, ℕ, suc, zero, ◌<◌, ⊎_elim, [], ◌∷◌, ◌++◌, length, get_or, set, take, refl, ap, sym, ◌∙◌, arith}
use Rattle.std.proofs.lemmas.Bool.{cases_eq}
use Rattle.std.proofs.lemmas.List.{get_or_push, get_or_append_left, get_or-set_same, get_or-set_other, length-set, length_push, same_lists}
use Rattle.std.proofs.lemmas.List.{take_at}
use Rattle.machine_links.specs.Laid.{laid}

pub length-laid : {A : Type 0} (f : ℕ → A) (n : ℕ) → length (laid f n) ≡ n
unfolding laid
length-laid f zero = refl
length-laid f (suc n) = let h = length-laid f n in omega (arith, h, length_push (laid f n) (f n))

pub get-laid : {A : Type 0} (f : ℕ → A) (n k : ℕ) (d : A) → k < n → get_or (laid f n) k d ≡ f k
unfolding laid
get-laid f zero k d h = absurd (omega arith)
get-laid f (suc n) k d h =
    ⊎_elim (λ e. get_or_push (laid f n) (f n) d k (length-laid f n ∙ sym e) ∙ ap f (sym e))
    (λ ne. let lt : k < n = omega arith in get_or_append_left (laid f n) (f n ∷ []) d k (omega (arith, length-laid f n))
    ∙ get-laid f n k d lt)
    (cases_eq k n)

pub laid-same : {A : Type 0} (f g : ℕ → A) (n : ℕ) → ((k : ℕ) → k < n → f k ≡ g k) → laid f n ≡ laid g n
unfolding laid
laid-same f g zero h = refl
laid-same f g (suc n) h = λ i. laid-same f g n (λ k l. h k (omega arith)) i ++ h n (omega arith) i ∷ []

-- one more value behind the others
pub laid-push : {A : Type 0} (f g : ℕ → A) (n : ℕ) → ((k : ℕ) → k < n → g k ≡ f k) → laid g (suc n) ≡ laid f n ++ g n ∷ []
unfolding laid
laid-push f g n h = ap (λ xs. xs ++ g n ∷ []) (laid-same g f n h)

-- and the last one taken back
pub laid-front : {A : Type 0} (f g : ℕ → A) (n : ℕ) → ((k : ℕ) → k < n → g k ≡ f k) → laid g n ≡ take n (laid f (suc n))
unfolding laid
laid-front f g n h = laid-same g f n h ∙ sym (take_at (laid f n) (f n ∷ []) n (length-laid f n))

-- one value changed
pub laid-set : {A : Type 0} (f g : ℕ → A) (n k : ℕ) (v : A) → k < n → g k ≡ v → ((q : ℕ) → (q ≡ k → ⊥) → g q ≡ f q)
    → laid g n ≡ set (laid f n) k v
laid-set f g n k v h own other =
    same_lists _ _ (length-laid g n ∙ sym (length-set (laid f n) k v ∙ length-laid f n)) (λ q d l. at q d (omega (arith, length-laid g n)))
  where
    at : (q : ℕ) (d : _) → q < n → get_or (laid g n) q d ≡ get_or (set (laid f n) k v) q d
    at q d l =
        get-laid g n q d l
        ∙ ⊎_elim (λ e. ap g e
        ∙ (own ∙ sym (ap (λ j. get_or (set (laid f n) k v) j d) e ∙ get_or-set_same (laid f n) k v d (omega (arith, length-laid f n)))))
        (λ ne. other q ne ∙ sym (get_or-set_other (laid f n) k q v d ne ∙ get-laid f n q d l))
        (cases_eq q k)
