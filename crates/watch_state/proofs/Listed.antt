-- Texts that grow by what is written of each element of a list.
use Rattle.std.proofs.Common.{◌≡◌, ℕ, zero, suc, ◌+◌, Bool, true, false, cond, List, [], ◌∷◌, ◌++◌, take, Some}
use Rattle.std.proofs.Common.{refl, ap, sym, ◌∙◌}
use Rattle.std.specs.Prelude.{slice_get}
use Rattle.std.specs.List.{flat_map}
use Rattle.std.proofs.lemmas.List.Concat.{flat_map-append}
use Rattle.base_lemmas.proofs.Lemmas.{piece-more as text-listed}
use Rattle.rules_maps.specs.Words.{those}
use Rattle.rules_tcc.specs.Seen.{numbers}
use Rattle.watch_state.specs.Lines.{led_lines, record_line}
use Rattle.watch_state.specs.Records.{Record}
use Rattle.watch_state.proofs.Growing.{piece-more}

-- ---- a list of lists

pub flat-flat : {A B C : Type 0} (h : B → List C) (g : A → List B) (xs : List A)
    → flat_map h (flat_map g xs) ≡ flat_map (λ x. flat_map h (g x)) xs
flat-flat h g [] = refl
flat-flat h g (x ∷ xs) = flat_map-append h (g x) (flat_map g xs) ∙ ap (λ ys. flat_map h (g x) ++ ys) (flat-flat h g xs)

-- ---- one element more

-- of a list of numbers
pub flats-more : {B : Type 0} (h : B → List ℕ) (f : ℕ → List B) (n : ℕ) (old now new : List ℕ)
    → now ≡ old ++ flat_map h (flat_map f (numbers n)) → new ≡ now ++ flat_map h (f n)
    → new ≡ old ++ flat_map h (flat_map f (numbers (n + 1)))
flats-more h f n old now new q e =
    piece-more (λ k. flat_map h (f k)) n old now new (q ∙ ap (λ t. old ++ t) (flat-flat h f (numbers n))) e
    ∙ ap (λ t. old ++ t) (sym (flat-flat h f (numbers (n + 1))))

pub flats-listed : {A B : Type 0} (h : B → List ℕ) (f : A → List B) (xs : List A) (k : ℕ) (x : A) (old now new : List ℕ)
    → slice_get xs k ≡ Some x → now ≡ old ++ flat_map h (flat_map f (take k xs)) → new ≡ now ++ flat_map h (f x)
    → new ≡ old ++ flat_map h (flat_map f (take (k + 1) xs))
flats-listed h f xs k x old now new at q e =
    text-listed (λ y. flat_map h (f y)) xs k x old now new at (q ∙ ap (λ t. old ++ t) (flat-flat h f (take k xs))) e
    ∙ ap (λ t. old ++ t) (sym (flat-flat h f (take (k + 1) xs)))

pub led-listed : {A : Type 0} (lead : List ℕ) (f : A → List Record) (xs : List A) (k : ℕ) (x : A) (old now new : List ℕ)
    → slice_get xs k ≡ Some x → now ≡ old ++ led_lines lead (flat_map f (take k xs)) → new ≡ now ++ led_lines lead (f x)
    → new ≡ old ++ led_lines lead (flat_map f (take (k + 1) xs))
unfolding led_lines
led-listed lead f xs k x old now new at q e = flats-listed (λ r. lead ++ record_line r) f xs k x old now new at q e

-- ---- all elements

-- numbers of which nothing is written may be left out
pub only-those : {A : Type 0} (f : ℕ → List A) (p : ℕ → Bool) → ((k : ℕ) → p k ≡ false → f k ≡ []) → (n : ℕ)
    → flat_map f (those p n) ≡ flat_map f (numbers n)
unfolding those
only-those f p none zero = refl
only-those f p none (suc n) =
    flat_map-append f (those p n) (cond (p n) (n ∷ []) []) ∙ (λ i. only-those f p none n i ++ last (p n) refl i)
    ∙ sym (flat_map-append f (numbers n) (n ∷ []))
  where
    last : (b : Bool) → p n ≡ b → flat_map f (cond b (n ∷ []) []) ≡ flat_map f (n ∷ [])
    last true e = refl
    last false e = sym (ap (λ ys. ys ++ []) (none n e))

pub none-of : {A : Type 0} (f : ℕ → List A) → ((k : ℕ) → f k ≡ []) → (n : ℕ) → flat_map f (numbers n) ≡ []
unfolding those
none-of f none zero = refl
none-of f none (suc n) = flat_map-append f (numbers n) (n ∷ []) ∙ (λ i. none-of f none n i ++ (none n i ++ []))
