-- The home words while they are loaded line by line.
use Rattle.std.proofs.Common.{◌≡◌, ℕ, zero, suc, ◌+◌, ◌*◌, ◌/◌, ◌%◌, ◌^◌, ◌<◌, ◌≤◌, Bool, true, false, ◌&&◌, ◌==◌, eqb}
use Rattle.std.proofs.Common.{List, get_or, nat_lt, if◌then◌else◌, refl, ap, sym, ◌∙◌, arith}
use Rattle.std.proofs.Math.Nat.{mod-add-div', mod-eq_of_lt, mul-le-mul_right}
use Rattle.base_lemmas.proofs.Lemmas.{eight-at, has-full}
use borrow.Author.Tests.{eqb-true, eqb-false, ltb-true, ltb-false}
use Rattle.rules_maps.specs.Words.{eight, word_at, line_of, place_of}
use Rattle.rules_maps.specs.Masks.{has, hit}
use Rattle.rules_maps.specs.Shape.{lines}
use Rattle.dir_lines.specs.Home.{Home, IsAtHome}
use Rattle.dir_lines.specs.Pages.{is_at_home}
use Rattle.dir_lines.specs.Words.{Words, words_at, with_words}
use Rattle.dir_lines.proofs.Lemmas.{is_at_home-only}

-- what holds of each of the first eight
pub all-eight : (f : ℕ → ℕ) (n : ℕ) → f 0 < n → f 1 < n → f 2 < n → f 3 < n → f 4 < n → f 5 < n → f 6 < n → f 7 < n
    → (k : ℕ) → k < 8 → f k < n
all-eight f n a b c d e i j l zero h = a
all-eight f n a b c d e i j l (suc zero) h = b
all-eight f n a b c d e i j l (suc (suc zero)) h = c
all-eight f n a b c d e i j l (suc (suc (suc zero))) h = d
all-eight f n a b c d e i j l (suc (suc (suc (suc zero)))) h = e
all-eight f n a b c d e i j l (suc (suc (suc (suc (suc zero))))) h = i
all-eight f n a b c d e i j l (suc (suc (suc (suc (suc (suc zero)))))) h = j
all-eight f n a b c d e i j l (suc (suc (suc (suc (suc (suc (suc zero))))))) h = l
all-eight f n a b c d e i j l (suc (suc (suc (suc (suc (suc (suc (suc k)))))))) h = absurd (omega arith)

-- the words of the first n lines are loaded
abbrev pub LoadedBelow : (ram : ℕ → ℕ) (p : Words) (n : ℕ) → Type 0
LoadedBelow ram p n = (w : ℕ) → line_of w < n → words_at ram p w ≡ ram w

-- no line from n on and below m is at home
abbrev pub NoneBetween : (h : Home) (n m : ℕ) → Type 0
NoneBetween h n m = (l : ℕ) → n ≤ l → l < m → IsAtHome h l → ⊥

-- the first line of a home, and its next one
pub none-before : (h : Home) → h.dir < h.shape.dirs → NoneBetween h 0 h.dir
none-before h exists l from lt at =
    let own : l % h.shape.dirs ≡ l = mod-eq_of_lt (omega arith) in
    let here : l % h.shape.dirs ≡ h.dir = at.1 in
    absurd (omega arith)

pub none-after : (h : Home) (n : ℕ) → n % h.shape.dirs ≡ h.dir → NoneBetween h (n + 1) (n + h.shape.dirs)
none-after h n own l from lt at = by (nat_lt (n / d) (l / d)) refl
  where
    d : ℕ
    d = h.shape.dirs

    below : n % d + n / d * d ≡ n
    below = mod-add-div' n d

    here : l % d + l / d * d ≡ l
    here = mod-add-div' l d

    by : (b : Bool) → nat_lt (n / d) (l / d) ≡ b → ⊥
    by true f =
        let up : (n / d + 1) * d ≤ l / d * d = mul-le-mul_right d (omega (arith, ltb-true (n / d) (l / d) f)) in
        let more : (n / d + 1) * d ≡ n / d * d + d = omega arith in
        let x : n % d + n / d * d ≡ n = below in let y : l % d + l / d * d ≡ l = here in
        let z : l % d ≡ n % d = at.1 ∙ sym own in
        omega arith
    by false f =
        let down : l / d * d ≤ n / d * d = mul-le-mul_right d (omega (arith, ltb-false (n / d) (l / d) f)) in
        let x : n % d + n / d * d ≡ n = below in let y : l % d + l / d * d ≡ l = here in
        let z : l % d ≡ n % d = at.1 ∙ sym own in
        omega arith

-- a line that was written
pub loaded-here : (ram : ℕ → ℕ) (old new : Words) (n : ℕ) (ws : List ℕ)
    → words_at ram new ≡ with_words n 255 ws (words_at ram old) → ws ≡ eight (λ k. ram (word_at n k)) → LoadedBelow ram old n
    → LoadedBelow ram new (n + 1)
unfolding hit
loaded-here ram old new n ws e v h w lt = (λ i. e i w) ∙ by (eqb n (line_of w)) refl
  where
    by : (b : Bool) → eqb n (line_of w) ≡ b
        → (if (n == line_of w) && has 255 (place_of w) then get_or ws (place_of w) 0 else words_at ram old w) ≡ ram w
    by true f =
        let same : n ≡ line_of w = eqb-true n (line_of w) f in
        let all : has 255 (place_of w) ≡ true = has-full (place_of w) (omega arith) in
        let own : word_at n (place_of w) ≡ w = omega arith in
        rw (f, all) (ap (λ xs. get_or xs (place_of w) 0) v ∙ (eight-at (λ k. ram (word_at n k)) (place_of w) (omega arith) ∙ ap ram own))
    by false f = rw f (h w (omega (arith, eqb-false n (line_of w) f)))

-- lines of other homes
pub loaded-past : (ram : ℕ → ℕ) (p : Words) (n m : ℕ) → NoneBetween p.place n m → LoadedBelow ram p n → LoadedBelow ram p m
unfolding words_at
loaded-past ram p n m none below w lt = by (is_at_home p.place (line_of w)) refl (nat_lt (line_of w) n) refl
  where
    by : (a : Bool) → is_at_home p.place (line_of w) ≡ a → (b : Bool) → nat_lt (line_of w) n ≡ b → words_at ram p w ≡ ram w
    by false f b g = rw f refl
    by true f true g = below w (ltb-true (line_of w) n g)
    by true f false g = absurd (none (line_of w) (ltb-false (line_of w) n g) lt (is_at_home-only p.place (line_of w) f))

-- all lines
pub loaded-all : (ram : ℕ → ℕ) (p : Words) (n : ℕ) → lines p.place.shape ≤ n → LoadedBelow ram p n → words_at ram p ≡ ram
unfolding words_at
loaded-all ram p n e h = λ i w. by w (nat_lt (line_of w) (lines p.place.shape)) refl i
  where
    by : (w : ℕ) (b : Bool) → nat_lt (line_of w) (lines p.place.shape) ≡ b → words_at ram p w ≡ ram w
    by w true f = h w (omega (arith, ltb-true (line_of w) (lines p.place.shape) f))
    by w false f = rw f refl

-- each word of the first n lines, where they are at home, is a number of 32 bits
abbrev pub SmallBelow : (ram : ℕ → ℕ) (h : Home) (n : ℕ) → Type 0
SmallBelow ram h n = (w : ℕ) → line_of w < n → IsAtHome h (line_of w) → ram w < 2 ^ 32

-- one more line whose words are, and lines of other homes
pub small-here : (ram : ℕ → ℕ) (h : Home) (n : ℕ) → ((k : ℕ) → k < 8 → ram (word_at n k) < 2 ^ 32)
    → SmallBelow ram h n → SmallBelow ram h (n + 1)
small-here ram h n here below = λ w lt a. by w lt a (eqb n (line_of w)) refl
  where
    by : (w : ℕ) → line_of w < n + 1 → IsAtHome h (line_of w) → (b : Bool) → eqb n (line_of w) ≡ b → ram w < 2 ^ 32
    by w lt a true f =
        let same : n ≡ line_of w = eqb-true n (line_of w) f in
        let own : word_at n (place_of w) ≡ w = omega arith in
        rw (← own) (here (place_of w) (omega arith))
    by w lt a false f = below w (omega (arith, eqb-false n (line_of w) f)) a

pub small-past : (ram : ℕ → ℕ) (h : Home) (n m : ℕ) → NoneBetween h n m → SmallBelow ram h n → SmallBelow ram h m
small-past ram h n m none below w lt at = by (nat_lt (line_of w) n) refl
  where
    by : (b : Bool) → nat_lt (line_of w) n ≡ b → ram w < 2 ^ 32
    by true f = below w (ltb-true (line_of w) n f) at
    by false f = absurd (none (line_of w) (ltb-false (line_of w) n f) lt at)

-- of all lines
pub small-all : (ram : ℕ → ℕ) (h : Home) (n : ℕ) → lines h.shape ≤ n → SmallBelow ram h n
    → (w : ℕ) → IsAtHome h (line_of w) → ram w < 2 ^ 32
small-all ram h n all below = λ w a. below w (omega (arith, a.0)) a
