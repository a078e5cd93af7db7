-- Words and numbers in front of some bytes: each is one, and so is a row.
use Rattle.std.proofs.Common.{◌≡◌, ℕ, zero, suc, ◌<◌, ◌≤◌, List, [], ◌∷◌, ◌++◌, All, IsTrue, get_or, slice_index, refl, sym}
use Rattle.std.proofs.Common.{Bool, true, false, ◌&&◌, true≢false}
use Rattle.std.proofs.Common.{◌∙◌, subst, append_assoc, arith}
use Rattle.std.specs.List.{flat_map}
use Rattle.row_text.specs.Reading.{EndsField}
use Rattle.row_text.specs.Rows.{IsWord, is_word_byte, number_text, numeral}
use Rattle.row_text.proofs.Numerals.{numeral-above, numeral-injective}

-- all are above the space
abbrev pub Above : List ℕ → Type 0
Above xs = All (λ b. 32 < b) xs

pub later-all : {A : Type 0} (P : A → Type 0) (x : A) (xs : List A) → All P (x ∷ xs) → All P xs
later-all P x xs h k e lt = h (suc k) e (omega arith)

-- a field ends in one place
pub one-field : (xs ys a b : List ℕ) → Above xs → Above ys → EndsField a → EndsField b → xs ++ a ≡ ys ++ b → (xs ≡ ys) × (a ≡ b)
one-field [] [] a b in_x in_y ends_a ends_b e = (refl, e)
one-field [] (y ∷ ys) a b in_x in_y ends_a ends_b e =
    let high : 32 < y = in_y 0 0 (omega arith) in
    let low : slice_index (y ∷ ys ++ b) 0 ≤ 32 = subst EndsField e ends_a in
    absurd (omega arith)
one-field (x ∷ xs) [] a b in_x in_y ends_a ends_b e =
    let high : 32 < x = in_x 0 0 (omega arith) in
    let low : slice_index (x ∷ xs ++ a) 0 ≤ 32 = subst EndsField (sym e) ends_b in
    absurd (omega arith)
one-field (x ∷ xs) (y ∷ ys) a b in_x in_y ends_a ends_b e =
    let heads : x ≡ y = cc in
    let tails : xs ++ a ≡ ys ++ b = cc in
    let rest = one-field xs ys a b (later-all (λ b. 32 < b) x xs in_x) (later-all (λ b. 32 < b) y ys in_y) ends_a ends_b tails in
    (let same = rest.0 in cc, rest.1)

-- a byte of a word is above the space
word-byte-above : (b : ℕ) → IsTrue (is_word_byte b) → 32 < b
unfolding is_word_byte
word-byte-above b is = grind arith

pub word-above : (word : List ℕ) → IsWord word → Above word
word-above word is k e lt = word-byte-above (get_or word k e) (is.bytes k e lt)

-- numbers and a line feed end a field
pub ends-tail : (ns rest : List ℕ) → EndsField (flat_map number_text ns ++ (10 ∷ rest))
unfolding number_text
ends-tail [] rest = omega arith
ends-tail (n ∷ ns) rest = omega arith

-- a number behind a space stands in front in one way
pub one-number-front : (n m : ℕ) (a b : List ℕ) → EndsField a → EndsField b → number_text n ++ a ≡ number_text m ++ b → (n ≡ m) × (a ≡ b)
unfolding number_text
one-number-front n m a b ends_a ends_b e =
    let behind : numeral n ++ a ≡ numeral m ++ b = cc in
    let parts = one-field (numeral n) (numeral m) a b (numeral-above n) (numeral-above m) ends_a ends_b behind in
    (numeral-injective n m parts.0, parts.1)

space-first : (m : ℕ) (ms a b : List ℕ) → 10 ∷ a ≡ flat_map number_text (m ∷ ms) ++ (10 ∷ b) → ⊥
unfolding number_text
space-first m ms a b e = cc

-- the numbers of a row, and what follows its line feed, are one
pub one-tail : (ns ms a b : List ℕ) → flat_map number_text ns ++ (10 ∷ a) ≡ flat_map number_text ms ++ (10 ∷ b)
    → (ns ≡ ms) × (a ≡ b)
one-tail [] [] a b e = (refl, cc)
one-tail [] (m ∷ ms) a b e = absurd (space-first m ms a b e)
one-tail (n ∷ ns) [] a b e = absurd (space-first n ns b a (sym e))
one-tail (n ∷ ns) (m ∷ ms) a b e =
    let regrouped : number_text n ++ (flat_map number_text ns ++ (10 ∷ a)) ≡ number_text m ++ (flat_map number_text ms ++ (10 ∷ b)) =
    sym (append_assoc (number_text n) (flat_map number_text ns) (10 ∷ a)) ∙ e
    ∙ append_assoc (number_text m) (flat_map number_text ms) (10 ∷ b) in
    let first = one-number-front n m (flat_map number_text ns ++ (10 ∷ a)) (flat_map number_text ms ++ (10 ∷ b))
    (ends-tail ns a) (ends-tail ms b) regrouped in
    let rest = one-tail ns ms a b first.1 in
    (let same = rest.0 in let head = first.0 in cc, rest.1)

-- ---- words that are written out

abbrev pub all-word-bytes : List ℕ → Bool
all-word-bytes [] = true
all-word-bytes (b ∷ bytes) = is_word_byte b && all-word-bytes bytes

both : (x y : Bool) → (x && y) ≡ true → (x ≡ true) × (y ≡ true)
both true true e = (refl, refl)
both true false e = absurd (true≢false (sym e))
both false y e = absurd (true≢false (sym e))

are-word-bytes : (bytes : List ℕ) → all-word-bytes bytes ≡ true → All (λ b. IsTrue (is_word_byte b)) bytes
are-word-bytes [] e k d lt = absurd (omega arith)
are-word-bytes (b ∷ bytes) e zero d lt = (both (is_word_byte b) (all-word-bytes bytes) e).0
are-word-bytes (b ∷ bytes) e (suc k) d lt = are-word-bytes bytes (both (is_word_byte b) (all-word-bytes bytes) e).1 k d (omega arith)

-- a word of letters, digits and `-`, by computation
pub is-word : (c : ℕ) (word : List ℕ) → all-word-bytes (c ∷ word) ≡ true → IsWord (c ∷ word)
is-word c word e = record { some = omega arith; bytes = are-word-bytes (c ∷ word) e }
