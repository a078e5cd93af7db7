-- A list of which one element changes.
use Rattle.std.proofs.Common.{◌≡◌, ℕ, zero, suc, ◌<◌, ◌≤◌, List, [], ◌∷◌, map, set, get_or, length, replicate}
use Rattle.std.proofs.Common.{Option, Some, None, refl, ap, sym, ◌∙◌, arith}
use Rattle.std.specs.Prelude.{All}
use Rattle.std.proofs.lemmas.List.Elements.{All-head, All-tail}
use Rattle.watch_count.specs.Counts.{changed, changed_if}

pub set-changed : {A : Type 0} (f : A → A) (k : ℕ) (xs : List A) (y d : A) → k < length xs → y ≡ f (get_or xs k d)
    → set xs k y ≡ changed k f xs
unfolding changed
set-changed f k [] y d l e = absurd (omega arith)
set-changed f zero (x ∷ xs) y d l e = ap (λ z. z ∷ xs) e
set-changed f (suc k) (x ∷ xs) y d l e = ap (λ zs. x ∷ zs) (set-changed f k xs y d (omega arith) e)

pub set-changed_if : {A : Type 0} (f : A → A) (k : ℕ) (o : Option ℕ) (xs : List A) (y d : A) → Some k ≡ o → k < length xs
    → y ≡ f (get_or xs k d) → set xs k y ≡ changed_if o f xs
set-changed_if f k o xs y d at l e = set-changed f k xs y d l e ∙ ap (λ p. changed_if p f xs) at

pub changed-past : {A : Type 0} (f : A → A) (k : ℕ) (xs : List A) → length xs ≤ k → changed k f xs ≡ xs
unfolding changed
changed-past f k [] l = refl
changed-past f zero (x ∷ xs) l = absurd (omega arith)
changed-past f (suc k) (x ∷ xs) l = ap (λ zs. x ∷ zs) (changed-past f k xs (omega arith))

pub changed_if-past : {A : Type 0} (f : A → A) (k : ℕ) (o : Option ℕ) (xs : List A) → Some k ≡ o → length xs ≤ k → changed_if o f xs ≡ xs
changed_if-past f k o xs at l = sym (ap (λ p. changed_if p f xs) at) ∙ changed-past f k xs l

pub length-changed : {A : Type 0} (f : A → A) (k : ℕ) (xs : List A) → length (changed k f xs) ≡ length xs
unfolding changed
length-changed f k [] = refl
length-changed f zero (x ∷ xs) = refl
length-changed f (suc k) (x ∷ xs) = ap (λ n. suc n) (length-changed f k xs)

pub length-changed_if : {A : Type 0} (f : A → A) (o : Option ℕ) (xs : List A) → length (changed_if o f xs) ≡ length xs
length-changed_if f None xs = refl
length-changed_if f (Some k) xs = length-changed f k xs

-- an element is changed before all are mapped
map-changed : {A B : Type 0} (f : A → B) (g : B → B) (k : ℕ) (xs : List A) (y d : A) → k < length xs → f y ≡ g (f (get_or xs k d))
    → map f (set xs k y) ≡ changed k g (map f xs)
unfolding changed
map-changed f g k [] y d l e = absurd (omega arith)
map-changed f g zero (x ∷ xs) y d l e = ap (λ z. z ∷ map f xs) e
map-changed f g (suc k) (x ∷ xs) y d l e = ap (λ zs. f x ∷ zs) (map-changed f g k xs y d (omega arith) e)

pub map-changed_if : {A B : Type 0} (f : A → B) (g : B → B) (k : ℕ) (o : Option ℕ) (xs : List A) (y d : A) → Some k ≡ o → k < length xs
    → f y ≡ g (f (get_or xs k d)) → map f (set xs k y) ≡ changed_if o g (map f xs)
map-changed_if f g k o xs y d at l e = map-changed f g k xs y d l e ∙ ap (λ p. changed_if p g (map f xs)) at

-- what holds of all that are mapped holds of one
pub map-at : {A B : Type 0} (P : B → Type 0) (f : A → B) (xs : List A) (k : ℕ) (d : A) → All P (map f xs) → k < length xs
    → P (f (get_or xs k d))
map-at P f [] k d all l = absurd (omega arith)
map-at P f (x ∷ xs) zero d all l = All-head P (f x) (map f xs) all
map-at P f (x ∷ xs) (suc k) d all l = map-at P f xs k d (All-tail P (f x) (map f xs) all) (omega arith)

pub map-replicate : {A B : Type 0} (f : A → B) (n : ℕ) (x : A) → map f (replicate n x) ≡ replicate n (f x)
map-replicate f zero x = refl
map-replicate f (suc n) x = ap (λ ys. f x ∷ ys) (map-replicate f n x)
