-- What holds of numbers below a bound, masks, the eight words of a line, and where lines and words lie.
use Rattle.std.proofs.Common.{Bool, List, [], ap, arith, cond, false, get_or, length, length-append, nat_eq, not, refl, suc, sym, true}
use Rattle.std.proofs.Common.{zero, ℕ, ◌&&◌, ◌++◌, ◌+◌, ◌-◌, ◌<◌, ◌||◌, ◌∙◌, ◌∷◌, ◌≡◌, ◌≤◌}
use Rattle.std.proofs.lemmas.Bool.Decides.{nat_tests}
use Rattle.std.proofs.lemmas.Grind.{same_number_lists}
use Rattle.std.proofs.lemmas.Nat.Bits.{bit_at-zero}
use Rattle.std.specs.Prelude.{nat_lt, ◌==◌, ◌≢◌}
use Rattle.base_lemmas.proofs.Numbers.{one_more}
use Rattle.rules_maps.specs.Masks.{has, mask_of}
use Rattle.rules_maps.specs.Shape.{Shape, home, lines}
use Rattle.rules_maps.specs.Words.{any_below, count_below, eight, line_of, num, place_of, those, word_at}
use Rattle.tcc_base.specs.Settings.{Settings}

pub any_below-same : (p q : ℕ → Bool) (n : ℕ) → ((j : ℕ) → j < n → p j ≡ q j) → any_below p n ≡ any_below q n
unfolding any_below
any_below-same p q zero h = refl
any_below-same p q (suc n) h =
    ap (λ b. b || p n) (any_below-same p q n (λ j l. h j (omega (arith, l)))) ∙ ap (λ b. any_below q n || b) (h n (omega arith))

pub any_below-none : (t : ℕ → Bool) (n : ℕ) → ((j : ℕ) → j < n → t j ≡ false) → any_below t n ≡ false
unfolding any_below
any_below-none t zero f = refl
any_below-none t (suc n) f = rw (any_below-none t n (λ j l. f j (omega (arith, l))), f n (omega arith)) refl

pub none_below : (t : ℕ → Bool) (n j : ℕ) → any_below t n ≡ false → j < n → t j ≡ false
unfolding any_below
none_below t zero j e l = absurd (omega arith)
none_below t (suc n) j e l = go (any_below t n) refl (t n) refl e (j == n) refl (none_below t n j)
  where
    go : (a : Bool) → any_below t n ≡ a → (b : Bool) → t n ≡ b → (a || b) ≡ false → (c : Bool) → (j == n) ≡ c
        → (any_below t n ≡ false → j < n → t j ≡ false) → t j ≡ false
    go true p b q e c r f = absurd (cc)
    go false p true q e c r f = absurd (cc)
    go false p false q e true r f = let z : j ≡ n = grind (arith, nat_tests) in rw z q
    go false p false q e false r f =
        let z : j ≢ n = λ y. absurd (let w : (j == n) ≡ true = grind (arith, nat_tests) in cc) in
        f p (grind (arith, nat_tests))

pub any_below-count : (p : ℕ → Bool) (n : ℕ) → any_below p n ≡ not (nat_eq (count_below p n) 0)
unfolding any_below count_below
any_below-count p zero = refl
any_below-count p (suc n) = rw (any_below-count p n) (one_more (count_below p n) (p n))

pub any_below-found : (t : ℕ → Bool) (n : ℕ) → any_below t n ≡ true → (j : ℕ) × (j < n) × (t j ≡ true)
unfolding any_below
any_below-found t zero e = absurd (cc)
any_below-found t (suc n) e = go (any_below t n) refl (t n) refl e (any_below-found t n)
  where
    go : (a : Bool) → any_below t n ≡ a → (b : Bool) → t n ≡ b → (a || b) ≡ true
        → (any_below t n ≡ true → (j : ℕ) × (j < n) × (t j ≡ true)) → (j : ℕ) × (j < suc n) × (t j ≡ true)
    go true p b q e f = let y = f p in (y.0, omega (arith, y.1), y.2)
    go false p true q e f = (n, omega arith, q)
    go false p false q e f = absurd (cc)

pub count_below-same : (p q : ℕ → Bool) (n : ℕ) → ((k : ℕ) → k < n → p k ≡ q k) → count_below p n ≡ count_below q n
unfolding count_below
count_below-same p q zero h = refl
count_below-same p q (suc n) h = λ i. count_below-same p q n (λ k l. h k (omega arith)) i + num (h n (omega arith) i)

pub count_below-most : (p : ℕ → Bool) (n : ℕ) → count_below p n ≤ n
unfolding count_below
count_below-most p zero = omega arith
count_below-most p (suc n) = let rest : count_below p n ≤ n = count_below-most p n in let own : num (p n) ≤ 1 = by (p n) in omega arith
  where
    by : (a : Bool) → num a ≤ 1
    by true = omega arith
    by false = omega arith

pub count_below-head : (p : ℕ → Bool) (n : ℕ) → count_below p (suc n) ≡ num (p 0) + count_below (λ k. p (suc k)) n
unfolding count_below
count_below-head p zero = omega arith
count_below-head p (suc n) = let h : count_below p n + num (p n) ≡ num (p 0) + count_below (λ k. p (suc k)) n = count_below-head p n in
    omega arith

pub those-same : (p q : ℕ → Bool) (n : ℕ) → ((k : ℕ) → k < n → p k ≡ q k) → those p n ≡ those q n
unfolding those
those-same p q zero h = refl
those-same p q (suc n) h = λ i. those-same p q n (λ k l. h k (omega arith)) i ++ cond (h n (omega arith) i) (n ∷ []) []

pub those-empty : (p : ℕ → Bool) (n : ℕ) → ((l : ℕ) → p l ≡ false) → those p n ≡ []
unfolding those
those-empty p zero none = refl
those-empty p (suc n) none = (λ i. those-empty p n none i ++ cond (none n i) (n ∷ []) [])

pub those-none : (p : ℕ → Bool) (n : ℕ) → ((k : ℕ) → k < n → p k ≡ false) → those p n ≡ []
unfolding those
those-none p zero h = refl
those-none p (suc n) h = rw (those-none p n (λ k l. h k (omega arith)), h n (omega arith)) refl

pub those-most : (p : ℕ → Bool) (n : ℕ) → length (those p n) ≤ n
unfolding those
those-most p zero = omega arith
those-most p (suc n) = omega (arith, length-append (those p n) (cond (p n) (n ∷ []) []), one (p n), those-most p n)
  where
    one : (b : Bool) → length (cond b (n ∷ []) []) ≤ 1
    one true = omega arith
    one false = omega arith

pub mask_of-same : (p q : ℕ → Bool) → ((k : ℕ) → k < 8 → p k ≡ q k) → mask_of p ≡ mask_of q
unfolding mask_of
mask_of-same p q h =
    rw (
      h 0 (omega arith),
      h 1 (omega arith),
      h 2 (omega arith),
      h 3 (omega arith),
      h 4 (omega arith),
      h 5 (omega arith),
      h 6 (omega arith),
      h 7 (omega arith),
    ) refl

pub mask_of-none : (p : ℕ → Bool) → ((k : ℕ) → k < 8 → p k ≡ false) → mask_of p ≡ 0
unfolding mask_of
mask_of-none p e =
    rw (
      e 0 (omega arith),
      e 1 (omega arith),
      e 2 (omega arith),
      e 3 (omega arith),
      e 4 (omega arith),
      e 5 (omega arith),
      e 6 (omega arith),
      e 7 (omega arith),
    ) refl

pub has-full : (k : ℕ) → k < 8 → has 255 k ≡ true
unfolding has
has-full zero l = refl
has-full (suc zero) l = refl
has-full (suc (suc zero)) l = refl
has-full (suc (suc (suc zero))) l = refl
has-full (suc (suc (suc (suc zero)))) l = refl
has-full (suc (suc (suc (suc (suc zero))))) l = refl
has-full (suc (suc (suc (suc (suc (suc zero)))))) l = refl
has-full (suc (suc (suc (suc (suc (suc (suc zero))))))) l = refl
has-full (suc (suc (suc (suc (suc (suc (suc (suc k)))))))) l = absurd (omega arith)

pub has-zero : (k : ℕ) → has 0 k ≡ false
unfolding has
has-zero k = rw (bit_at-zero k)

pub eight-same : (f g : ℕ → ℕ) → ((k : ℕ) → k < 8 → f k ≡ g k) → eight f ≡ eight g
unfolding eight
eight-same f g h = λ i. h 0 (omega arith) i ∷ h 1 (omega arith) i ∷ h 2 (omega arith) i ∷ h 3 (omega arith) i ∷ h 4 (omega arith) i ∷ h 5
    (omega arith) i ∷ h 6 (omega arith) i ∷ h 7 (omega arith) i ∷ []

pub eight-at : (f : ℕ → ℕ) (k : ℕ) → k < 8 → get_or (eight f) k 0 ≡ f k
unfolding eight
eight-at f zero h = refl
eight-at f (suc zero) h = refl
eight-at f (suc (suc zero)) h = refl
eight-at f (suc (suc (suc zero))) h = refl
eight-at f (suc (suc (suc (suc zero)))) h = refl
eight-at f (suc (suc (suc (suc (suc zero))))) h = refl
eight-at f (suc (suc (suc (suc (suc (suc zero)))))) h = refl
eight-at f (suc (suc (suc (suc (suc (suc (suc zero))))))) h = refl
eight-at f (suc (suc (suc (suc (suc (suc (suc (suc k)))))))) h = absurd (omega arith)

pub get_or-eight : (f : ℕ → ℕ) (k d : ℕ) → k < 8 → get_or (eight f) k d ≡ f k
unfolding eight
get_or-eight f zero d h = refl
get_or-eight f (suc zero) d h = refl
get_or-eight f (suc (suc zero)) d h = refl
get_or-eight f (suc (suc (suc zero))) d h = refl
get_or-eight f (suc (suc (suc (suc zero)))) d h = refl
get_or-eight f (suc (suc (suc (suc (suc zero))))) d h = refl
get_or-eight f (suc (suc (suc (suc (suc (suc zero)))))) d h = refl
get_or-eight f (suc (suc (suc (suc (suc (suc (suc zero))))))) d h = refl
get_or-eight f (suc (suc (suc (suc (suc (suc (suc (suc k)))))))) d h = absurd (omega arith)

pub length-eight : (f : ℕ → ℕ) → length (eight f) ≡ 8
unfolding eight
length-eight f = refl

pub eight_of : (xs : List ℕ) (f : ℕ → ℕ) → length xs ≡ 8 → ((k : ℕ) → k < 8 → get_or xs k 0 ≡ f k) → xs ≡ eight f
eight_of xs f l v =
    same_number_lists xs (eight f) (l ∙ sym (length-eight f))
    (λ k h. let b : k < 8 = omega (arith, l, h) in v k b ∙ sym (get_or-eight f k 0 b))

pub line_of-word_at : (l k : ℕ) → k < 8 → line_of (word_at l k) ≡ l
line_of-word_at l k h = omega (arith, h)

pub place_of-word_at : (l k : ℕ) → k < 8 → place_of (word_at l k) ≡ k
place_of-word_at l k h = omega arith

pub word_at-own : (x : ℕ) → word_at (line_of x) (place_of x) ≡ x
word_at-own x = omega arith

pub at_home : (s : Settings) (l d : ℕ) → l < lines s → home s l ≡ d → (nat_lt l (lines s) && (home s l == d)) ≡ true
at_home s l d a b = grind (arith, nat_tests)

pub in-memory : (sh : Shape) (l : ℕ) → nat_lt l (lines sh) ≡ true → l < lines sh
in-memory sh l e = grind (arith, nat_tests)

pub num-most : (b : Bool) → num b ≤ 1
num-most true = omega arith
num-most false = omega arith
