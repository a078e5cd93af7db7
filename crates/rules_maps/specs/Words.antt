-- Finite maps as functions, tests over all numbers below a bound, and the eight words of a line:
-- the few words that every other definition of the protocol is written in.
pub use Rattle.tcc_base.specs.Put.{put}
use Rattle.std.specs.Prelude.{ℕ, zero, suc, ◌+◌, ◌*◌, ◌/◌, ◌%◌, Bool, true, false, cond, if◌then◌else◌, ◌==◌, ◌&&◌, ◌||◌, List, [], ◌∷◌}
use Rattle.std.specs.Prelude.{◌++◌, Option, Some, None}

-- the map of two numbers with the value v at i and k
abbrev pub put_at : {A : Type 0} → (ℕ → ℕ → A) → ℕ → ℕ → A → ℕ → ℕ → A
put_at f i k v j m = (if j == i && m == k then v else f j m)

-- 1 for true, 0 for false
abbrev pub num : Bool → ℕ
num b = cond b 1 0

-- p holds of some number below n
unfoldable pub any_below : (ℕ → Bool) → ℕ → Bool
any_below p zero = false
any_below p (suc n) = any_below p n || p n

-- p holds of all numbers below n
unfoldable pub all_below : (ℕ → Bool) → ℕ → Bool
all_below p zero = true
all_below p (suc n) = all_below p n && p n

-- how many numbers below n have p
unfoldable pub count_below : (ℕ → Bool) → ℕ → ℕ
count_below p zero = 0
count_below p (suc n) = count_below p n + num (p n)

-- the numbers below n that have p, rising
unfoldable pub those : (ℕ → Bool) → ℕ → List ℕ
those p zero = []
those p (suc n) = those p n ++ cond (p n) (n ∷ []) []

-- the first of two that there is
abbrev pub or_else : {A : Type 0} → Option A → Option A → Option A
or_else (Some x) y = Some x
or_else None y = y

-- the lowest number below n that has p
unfoldable pub lowest : (ℕ → Bool) → ℕ → Option ℕ
lowest p zero = None
lowest p (suc n) = or_else (lowest p n) (cond (p n) (Some n) None)

-- the line of a word, and the word's place in it; the k-th word of a line
abbrev pub line_of : ℕ → ℕ
line_of w = w / 8

abbrev pub place_of : ℕ → ℕ
place_of w = w % 8

abbrev pub word_at : ℕ → ℕ → ℕ
word_at l k = 8 * l + k

-- the eight values of f, as a line's words stand in a message
unfoldable pub eight : {A : Type 0} → (ℕ → A) → List A
eight f = f 0 ∷ f 1 ∷ f 2 ∷ f 3 ∷ f 4 ∷ f 5 ∷ f 6 ∷ f 7 ∷ []

-- some word of the line has p
unfoldable pub any_word : (ℕ → Bool) → ℕ → Bool
any_word p l = any_below (λ k. p (word_at l k)) 8
