-- The bytes of a line are ASCII: a letter, then words, each behind a space, and a line feed.
use Rattle.std.proofs.Common.{ℕ, List, [], ◌∷◌, ◌++◌, ◌<◌, arith}
use Rattle.std.specs.Str.{IsAscii}
use Rattle.std.proofs.lemmas.Str.{IsAscii-append}
use Rattle.std.proofs.lemmas.Str.Ascii.{IsAscii-cons, IsAscii-nil}

space_ascii : IsAscii (32 ∷ [])
space_ascii = IsAscii-cons 32 [] (omega arith) IsAscii-nil

end_ascii : IsAscii (10 ∷ [])
end_ascii = IsAscii-cons 10 [] (omega arith) IsAscii-nil

-- a letter and a space, before the rest of a line
from_letter : (letter : ℕ) (rest : List ℕ) → letter < 128 → IsAscii rest → IsAscii (letter ∷ 32 ∷ rest)
from_letter letter rest small r = IsAscii-cons letter (32 ∷ rest) small (IsAscii-cons 32 rest (omega arith) r)

pub one_word : (letter : ℕ) (a : List ℕ) → letter < 128 → IsAscii a → IsAscii (letter ∷ 32 ∷ (a ++ (10 ∷ [])))
one_word letter a small in_a = from_letter letter (a ++ (10 ∷ [])) small (IsAscii-append a (10 ∷ []) in_a end_ascii)

pub three_words : (letter : ℕ) (a b c : List ℕ) → letter < 128 → IsAscii a → IsAscii b → IsAscii c
    → IsAscii (letter ∷ 32 ∷ (((((a ++ (32 ∷ [])) ++ b) ++ (32 ∷ [])) ++ c) ++ (10 ∷ [])))
three_words letter a b c small in_a in_b in_c =
    let to_b = (a ++ (32 ∷ [])) ++ b in
    let to_c = (to_b ++ (32 ∷ [])) ++ c in
    let in_b : IsAscii to_b = IsAscii-append (a ++ (32 ∷ [])) b (IsAscii-append a (32 ∷ []) in_a space_ascii) in_b in
    let in_c : IsAscii to_c = IsAscii-append (to_b ++ (32 ∷ [])) c (IsAscii-append to_b (32 ∷ []) in_b space_ascii) in_c in
    from_letter letter (to_c ++ (10 ∷ [])) small (IsAscii-append to_c (10 ∷ []) in_c end_ascii)
