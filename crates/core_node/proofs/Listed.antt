-- The numbers below a bound: filtered, mapped, and in rows of one length.
use Rattle.std.proofs.Common.{◌≡◌, ℕ, zero, suc, ◌+◌, ◌*◌, ◌/◌, ◌%◌, ◌<◌, Bool, true, false, cond}
use Rattle.std.proofs.Common.{List, [], ◌∷◌, ◌++◌, map, append-nil, append_assoc, refl, ap, sym, ◌∙◌, arith}
use Rattle.std.specs.List.{filter, flat_map}
use Rattle.std.proofs.lemmas.Grind.{flat_map-append}
use Rattle.std.proofs.lemmas.List.{map-append}
use Rattle.std.proofs.lemmas.List.Elements.{filter-append}
use Rattle.std.proofs.lemmas.Nat.{div-mul-add, mod-mul-add}
use Rattle.base_lemmas.proofs.Lemmas.{map-map, those-same}
use Rattle.rules_maps.specs.Words.{those}
use Rattle.rules_tcc.specs.Seen.{numbers}

pub map-flat : {A B C : Type 0} (f : B → C) (g : A → List B) (xs : List A) → map f (flat_map g xs) ≡ flat_map (λ x. map f (g x)) xs
map-flat f g [] = refl
map-flat f g (x ∷ xs) = map-append f (g x) (flat_map g xs) ∙ ap (λ ys. map f (g x) ++ ys) (map-flat f g xs)

pub filter-numbers : (t : ℕ → Bool) (n : ℕ) → filter t (numbers n) ≡ those t n
unfolding those
filter-numbers t zero = refl
filter-numbers t (suc n) = filter-append t (numbers n) (n ∷ []) ∙ ap (λ ys. ys ++ cond (t n) (n ∷ []) []) (filter-numbers t n)

pub flat-same : {A : Type 0} (f g : ℕ → List A) (n : ℕ) → ((k : ℕ) → k < n → f k ≡ g k) → flat_map f (numbers n) ≡ flat_map g (numbers n)
unfolding those
flat-same f g zero h = refl
flat-same f g (suc n) h =
    flat_map-append f (numbers n) (n ∷ [])
    ∙ ap (λ ys. ys ++ (f n ++ [])) (flat-same f g n (λ k l. h k (omega arith)))
    ∙ ap (λ ys. flat_map g (numbers n) ++ (ys ++ [])) (h n (omega arith))
    ∙ sym (flat_map-append g (numbers n) (n ∷ []))

map-one : {A : Type 0} (f g : ℕ → A) (n : ℕ) (b : Bool) → f n ≡ g n → map f (cond b (n ∷ []) []) ≡ map g (cond b (n ∷ []) [])
map-one f g n true e = ap (λ x. x ∷ []) e
map-one f g n false e = refl

pub map-same : {A : Type 0} (f g : ℕ → A) (t : ℕ → Bool) (n : ℕ) → ((k : ℕ) → k < n → f k ≡ g k) → map f (those t n) ≡ map g (those t n)
unfolding those
map-same f g t zero h = refl
map-same f g t (suc n) h =
    map-append f (those t n) (cond (t n) (n ∷ []) [])
    ∙ ap (λ ys. ys ++ map f (cond (t n) (n ∷ []) [])) (map-same f g t n (λ k l. h k (omega arith)))
    ∙ ap (λ ys. map g (those t n) ++ ys) (map-one f g n (t n) (h n (omega arith)))
    ∙ sym (map-append g (those t n) (cond (t n) (n ∷ []) []))

map-later : (m n : ℕ) (b : Bool) → cond b ((m + n) ∷ []) [] ≡ map (λ k. m + k) (cond b (n ∷ []) [])
map-later m n true = refl
map-later m n false = refl

-- the numbers below a sum
pub those-plus : (t : ℕ → Bool) (m n : ℕ) → those t (m + n) ≡ those t m ++ map (λ k. m + k) (those (λ k. t (m + k)) n)
unfolding those
those-plus t m zero = let e : m + 0 ≡ m = omega arith in ap (those t) e ∙ sym (append-nil (those t m))
those-plus t m (suc n) =
    let e : m + suc n ≡ suc (m + n) = omega arith in
    ap (those t) e
    ∙ ap (λ ys. ys ++ cond (t (m + n)) ((m + n) ∷ []) []) (those-plus t m n)
    ∙ append_assoc (those t m) (map (λ k. m + k) (those (λ k. t (m + k)) n)) (cond (t (m + n)) ((m + n) ∷ []) [])
    ∙ ap (λ ys. those t m ++ (map (λ k. m + k) (those (λ k. t (m + k)) n) ++ ys)) (map-later m n (t (m + n)))
    ∙ ap (λ ys. those t m ++ ys) (sym (map-append (λ k. m + k) (those (λ k. t (m + k)) n) (cond (t (m + n)) (n ∷ []) [])))

-- row and place in it, in rows of w
abbrev pub row_of : (w i : ℕ) → ℕ × ℕ
row_of w i = (i / w, i % w)

abbrev row : (t : ℕ → ℕ → Bool) (w x : ℕ) → List (ℕ × ℕ)
row t w x = map (λ y. (x, y)) (those (t x) w)

pub in_row : (w x y : ℕ) → y < w → row_of w (x * w + y) ≡ (x, y)
in_row w x y l = ap (λ a. (a, (x * w + y) % w)) (div-mul-add x w y l) ∙ ap (λ b. (x, b)) (mod-mul-add x w y l)

-- the numbers that pass, by row and place, are those of each row
pub those-rows : (t : ℕ → ℕ → Bool) (w n : ℕ)
    → map (row_of w) (those (λ i. t (i / w) (i % w)) (n * w)) ≡ flat_map (λ x. map (λ y. (x, y)) (those (t x) w)) (numbers n)
unfolding those
those-rows t w zero = let e : 0 * w ≡ 0 = omega arith in ap (λ m. map (row_of w) (those (λ i. t (i / w) (i % w)) m)) e
those-rows t w (suc n) =
    let at : ℕ → Bool = λ i. t (i / w) (i % w) in
    let e : suc n * w ≡ n * w + w = grind arith in
    ap (λ m. map (row_of w) (those at m)) e
    ∙ ap (map (row_of w)) (those-plus at (n * w) w)
    ∙ map-append (row_of w) (those at (n * w)) (map (λ k. n * w + k) (those (λ k. at (n * w + k)) w))
    ∙ ap (λ ys. ys ++ map (row_of w) (map (λ k. n * w + k) (those (λ k. at (n * w + k)) w))) (those-rows t w n)
    ∙ ap (λ ys. flat_map (row t w) (numbers n) ++ ys) (last at)
    ∙ sym (flat_map-append (row t w) (numbers n) (n ∷ []))
  where
    last : (at : ℕ → Bool) → map (row_of w) (map (λ k. n * w + k) (those (λ k. t ((n * w + k) / w) ((n * w + k) % w)) w)) ≡ row t w n ++ []
    last at = map-map (row_of w) (λ k. n * w + k) (those (λ k. t ((n * w + k) / w) ((n * w + k) % w)) w)
        ∙ ap (map (λ k. row_of w (n * w + k))) (those-same (λ k. t ((n * w + k) / w) ((n * w + k) % w)) (t n) w
        (λ k l. ap (λ a. t a ((n * w + k) % w)) (div-mul-add n w k l) ∙ ap (t n) (mod-mul-add n w k l)))
        ∙ map-same (λ k. row_of w (n * w + k)) (λ y. (n, y)) (t n) w (in_row w n)
        ∙ sym (append-nil (row t w n))
