-- One text for a list of rows.
use Rattle.std.proofs.Common.{◌≡◌, ℕ, ◌<◌, List, [], ◌∷◌, ◌++◌, All, length, refl, sym, ◌∙◌, append_assoc, arith}
use Rattle.std.specs.List.{flat_map}
use Rattle.row_text.specs.Rows.{HasWord, IsRow, IsWord, Row, number_text, row_text, rows_text}
use Rattle.row_text.proofs.Fields.{ends-tail, later-all, one-field, one-tail, word-above}

-- a row and what follows it, as they are read
pub row-parts : (r : Row) (rest : List ℕ) → row_text r ++ rest ≡ r.word ++ (flat_map number_text r.numbers ++ (10 ∷ rest))
unfolding row_text
row-parts r rest = simp append_assoc

pub one-row : (r s : Row) (a b : List ℕ) → IsWord r.word → IsWord s.word → row_text r ++ a ≡ row_text s ++ b → (r ≡ s) × (a ≡ b)
one-row r s a b is_r is_s e =
    let tail_r = flat_map number_text r.numbers ++ (10 ∷ a) in
    let tail_s = flat_map number_text s.numbers ++ (10 ∷ b) in
    let fields = one-field r.word s.word tail_r tail_s (word-above r.word is_r) (word-above s.word is_s)
    (ends-tail r.numbers a) (ends-tail s.numbers b) (sym (row-parts r a) ∙ e ∙ row-parts s b) in
    let rest = one-tail r.numbers s.numbers a b fields.1 in
    (λ i. record { word = fields.0 i; numbers = rest.0 i }, rest.1)

-- a row has a byte
some-row : (r : Row) (a : List ℕ) → IsWord r.word → [] ≡ row_text r ++ a → ⊥
some-row r a is e = go r.word is.some (e ∙ row-parts r a)
  where
    go : (word : List ℕ) → 0 < length word → [] ≡ word ++ (flat_map number_text r.numbers ++ (10 ∷ a)) → ⊥
    go [] some e = omega arith
    go (c ∷ word) some e = cc

pub one-text_of_words : (xs ys : List Row) → All HasWord xs → All HasWord ys → rows_text xs ≡ rows_text ys → xs ≡ ys
unfolding rows_text
one-text_of_words [] [] in_x in_y e = refl
one-text_of_words [] (y ∷ ys) in_x in_y e = absurd (some-row y (flat_map row_text ys) (in_y 0 y (omega arith)) e)
one-text_of_words (x ∷ xs) [] in_x in_y e = absurd (some-row x (flat_map row_text xs) (in_x 0 x (omega arith)) (sym e))
one-text_of_words (x ∷ xs) (y ∷ ys) in_x in_y e =
    let first = one-row x y (flat_map row_text xs) (flat_map row_text ys) (in_x 0 x (omega arith)) (in_y 0 y (omega arith)) e in
    let rest = one-text_of_words xs ys (later-all HasWord x xs in_x) (later-all HasWord y ys in_y) first.1 in
    λ i. first.0 i ∷ rest i

-- rows begin with words
pub one-text : (xs ys : List Row) → All IsRow xs → All IsRow ys → rows_text xs ≡ rows_text ys → xs ≡ ys
one-text xs ys in_x in_y e = one-text_of_words xs ys (λ k d lt. (in_x k d lt).word) (λ k d lt. (in_y k d lt).word) e
