-- Lists in which each item stands before all behind it: appended, mapped, joined and filtered.
use Rattle.std.proofs.Common.{◌≡◌, ℕ, suc, zero, ◌<◌, Bool, true, false, cond, ◌⊎◌, inl, inr, ⊎_elim, List, [], ◌∷◌, ◌++◌, map, refl, ap}
use Rattle.std.proofs.Common.{sym, ◌∙◌, arith}
use Rattle.std.specs.List.{flat_map, filter}
use Rattle.std.proofs.lemmas.Bool.{cases_eq}
use Rattle.std.proofs.lemmas.Bool.Decides.{nat_tests}
use Rattle.std.specs.Prelude.{nat_lt}
use Rattle.rules_maps.specs.Words.{those}

abbrev pub Every : {A : Type 0} → (A → Type 0) → List A → Type 0
Every P [] = Unit {0}
Every P (x ∷ xs) = P x × Every P xs

abbrev pub Ordered : {A : Type 0} → (A → A → Bool) → List A → Type 0
Ordered r [] = Unit {0}
Ordered r (x ∷ xs) = Every (λ y. r x y ≡ true) xs × Ordered r xs

abbrev pub Among : {A : Type 0} → A → List A → Type 0
Among x [] = ⊥
Among x (y ∷ ys) = (y ≡ x) ⊎ Among x ys

pub every-append : {A : Type 0} (P : A → Type 0) (xs ys : List A) → Every P xs → Every P ys → Every P (xs ++ ys)
every-append P [] ys h k = k
every-append P (x ∷ xs) ys h k = (h.0, every-append P xs ys h.1 k)

pub every-weaken : {A : Type 0} (P Q : A → Type 0) (xs : List A) → ((x : A) → P x → Q x) → Every P xs → Every Q xs
every-weaken P Q [] f h = tt
every-weaken P Q (x ∷ xs) f h = (f x h.0, every-weaken P Q xs f h.1)

pub every-map : {A B : Type 0} (P : B → Type 0) (g : A → B) (xs : List A) → Every (λ x. P (g x)) xs → Every P (map g xs)
every-map P g [] h = tt
every-map P g (x ∷ xs) h = (h.0, every-map P g xs h.1)

pub every-all : {A : Type 0} (P : A → Type 0) (xs : List A) → ((x : A) → P x) → Every P xs
every-all P [] f = tt
every-all P (x ∷ xs) f = (f x, every-all P xs f)

pub every-flat : {A B : Type 0} (P : B → Type 0) (f : A → List B) (xs : List A) → Every (λ x. Every P (f x)) xs → Every P (flat_map f xs)
every-flat P f [] h = tt
every-flat P f (x ∷ xs) h = every-append P (f x) (flat_map f xs) h.0 (every-flat P f xs h.1)

pub every-filter : {A : Type 0} (P : A → Type 0) (t : A → Bool) (xs : List A) → Every P xs → Every P (filter t xs)
every-filter P t [] h = tt
every-filter P t (x ∷ xs) h = every-filter_at P t x xs (t x) h.0 (every-filter P t xs h.1)
  where
    every-filter_at : {A : Type 0} (P : A → Type 0) (t : A → Bool) (x : A) (xs : List A) (b : Bool) → P x → Every P (filter t xs)
        → Every P (cond b (x ∷ filter t xs) (filter t xs))
    every-filter_at P t x xs true p h = (p, h)
    every-filter_at P t x xs false p h = h

pub ordered-append : {A : Type 0} (r : A → A → Bool) (xs ys : List A) → Ordered r xs → Ordered r ys
    → Every (λ x. Every (λ y. r x y ≡ true) ys) xs → Ordered r (xs ++ ys)
ordered-append r [] ys h k e = k
ordered-append r (x ∷ xs) ys h k e = (every-append (λ y. r x y ≡ true) xs ys h.0 e.0, ordered-append r xs ys h.1 k e.1)

pub ordered-map : {A B : Type 0} (q : A → A → Bool) (r : B → B → Bool) (g : A → B) (xs : List A)
    → ((x y : A) → q x y ≡ true → r (g x) (g y) ≡ true) → Ordered q xs → Ordered r (map g xs)
ordered-map q r g [] f h = tt
ordered-map q r g (x ∷ xs) f h = (
  every-map (λ y. r (g x) y ≡ true) g xs (every-weaken (λ y. q x y ≡ true) (λ y. r (g x) (g y) ≡ true) xs (f x) h.0),
  ordered-map q r g xs f h.1,
)

-- each key gives a list of its own kind, and those of a smaller key stand before those of a larger
pub ordered-flat : {A B : Type 0} (q : A → A → Bool) (r : B → B → Bool) (g : A → List B) (K : A → B → Type 0) →
    ((x : A) → Ordered r (g x)) → ((x : A) → Every (K x) (g x)) → ((x y : A) (a b : B) → q x y ≡ true → K x a → K y b → r a b ≡ true) →
    (xs : List A) → Ordered q xs → Ordered r (flat_map g xs)
ordered-flat q r g K o k f [] h = tt
ordered-flat q r g K o k f (x ∷ xs) h =
    ordered-append r (g x) (flat_map g xs) (o x) (ordered-flat q r g K o k f xs h.1)
    (every-weaken (K x) (λ a. Every (λ b. r a b ≡ true) (flat_map g xs)) (g x)
    (λ a ka. every-flat (λ b. r a b ≡ true) g xs
    (every-weaken (λ y. q x y ≡ true) (λ y. Every (λ b. r a b ≡ true) (g y)) xs
    (λ y e. every-weaken (K y) (λ b. r a b ≡ true) (g y) (λ b kb. f x y a b e ka kb) (k y)) h.0))
    (k x))

pub ordered-filter : {A : Type 0} (r : A → A → Bool) (t : A → Bool) (xs : List A) → Ordered r xs → Ordered r (filter t xs)
ordered-filter r t [] h = tt
ordered-filter r t (x ∷ xs) h = at r t x xs (t x) (every-filter (λ y. r x y ≡ true) t xs h.0) (ordered-filter r t xs h.1)
  where
    at : {A : Type 0} (r : A → A → Bool) (t : A → Bool) (x : A) (xs : List A) (b : Bool) → Every (λ y. r x y ≡ true) (filter t xs)
        → Ordered r (filter t xs) → Ordered r (cond b (x ∷ filter t xs) (filter t xs))
    at r t x xs true e h = (e, h)
    at r t x xs false e h = h

-- the numbers below n
pub every-numbers : (n : ℕ) → Every (λ k. k < n) (those (λ k. true) n)
unfolding those
every-numbers zero = tt
every-numbers (suc n) =
    every-append (λ k. k < suc n) (those (λ k. true) n) (n ∷ [])
    (every-weaken (λ k. k < n) (λ k. k < suc n) (those (λ k. true) n) (λ k h. omega arith) (every-numbers n)) (omega arith, tt)

pub ordered-numbers : (n : ℕ) → Ordered nat_lt (those (λ k. true) n)
unfolding those
ordered-numbers zero = tt
ordered-numbers (suc n) =
    ordered-append nat_lt (those (λ k. true) n) (n ∷ []) (ordered-numbers n) (tt, tt)
    (every-weaken (λ k. k < n) (λ k. Every (λ y. nat_lt k y ≡ true) (n ∷ [])) (those (λ k. true) n) (λ k h. (grind (arith, nat_tests), tt))
    (every-numbers n))

-- membership
pub among-left : {A : Type 0} (x : A) (xs ys : List A) → Among x xs → Among x (xs ++ ys)
among-left x [] ys h = absurd h
among-left x (y ∷ xs) ys h = ⊎_elim (λ e. inl e) (λ k. inr (among-left x xs ys k)) h

pub among-right : {A : Type 0} (x : A) (xs ys : List A) → Among x ys → Among x (xs ++ ys)
among-right x [] ys h = h
among-right x (y ∷ xs) ys h = inr (among-right x xs ys h)

pub among-map : {A B : Type 0} (g : A → B) (x : A) (xs : List A) → Among x xs → Among (g x) (map g xs)
among-map g x [] h = absurd h
among-map g x (y ∷ xs) h = ⊎_elim (λ e. inl (ap g e)) (λ k. inr (among-map g x xs k)) h

pub among-flat : {A B : Type 0} (g : A → List B) (x : A) (b : B) (xs : List A) → Among x xs → Among b (g x) → Among b (flat_map g xs)
among-flat g x b [] h k = absurd h
among-flat g x b (y ∷ xs) h k =
    ⊎_elim (λ e. among-left b (g y) (flat_map g xs) (rw e k)) (λ i. among-right b (g y) (flat_map g xs) (among-flat g x b xs i k)) h

pub among-filter : {A : Type 0} (t : A → Bool) (x : A) (xs : List A) → Among x xs → t x ≡ true → Among x (filter t xs)
among-filter t x [] h e = absurd h
among-filter t x (y ∷ xs) h e = at t x y xs (t y) refl h e (λ i. among-filter t x xs i e)
  where
    at : {A : Type 0} (t : A → Bool) (x y : A) (xs : List A) (b : Bool) → t y ≡ b → (y ≡ x) ⊎ Among x xs → t x ≡ true
        → (Among x xs → Among x (filter t xs)) → Among x (cond b (y ∷ filter t xs) (filter t xs))
    at t x y xs true q h e f = ⊎_elim (λ s. inl s) (λ i. inr (f i)) h
    at t x y xs false q h e f = ⊎_elim (λ s. absurd (let i : t x ≡ false = (ap t (sym s)) ∙ q in cc)) (λ i. f i) h

pub filter-among : {A : Type 0} (t : A → Bool) (x : A) (xs : List A) → Among x (filter t xs) → t x ≡ true
filter-among t x [] h = absurd h
filter-among t x (y ∷ xs) h = at t x y xs (t y) refl h (filter-among t x xs)
  where
    at : {A : Type 0} (t : A → Bool) (x y : A) (xs : List A) (b : Bool) → t y ≡ b → Among x (cond b (y ∷ filter t xs) (filter t xs))
        → (Among x (filter t xs) → t x ≡ true) → t x ≡ true
    at t x y xs true q h f = ⊎_elim (λ s. ap t (sym s) ∙ q) (λ i. f i) h
    at t x y xs false q h f = f h

pub among-numbers : (n k : ℕ) → k < n → Among k (those (λ k. true) n)
unfolding those
among-numbers zero k h = absurd (omega arith)
among-numbers (suc n) k h =
    ⊎_elim (λ e. among-right k (those (λ k. true) n) (n ∷ []) (inl (sym e)))
    (λ d. among-left k (those (λ k. true) n) (n ∷ []) (among-numbers n k (omega arith))) (cases_eq k n)

pub none-among : {A : Type 0} (xs : List A) → ((x : A) → Among x xs → ⊥) → xs ≡ []
none-among [] f = refl
none-among (x ∷ xs) f = absurd (f x (inl refl))
