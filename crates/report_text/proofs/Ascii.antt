-- The bytes of a line are ASCII: a word, then numbers with a space between two, and a line feed.
use Rattle.std.proofs.Common.{◌≡◌, ℕ, ◌<◌, Bool, true, false, ◌&&◌, nat_lt, List, [], ◌∷◌, ◌++◌, refl, arith}
use Rattle.std.proofs.lemmas.Bool.Decides.{nat_tests}
use Rattle.std.proofs.lemmas.Str.{IsAscii-append}
use Rattle.std.proofs.lemmas.Str.Ascii.{IsAscii-cons, IsAscii-nil}
use Rattle.std.specs.Str.{IsAscii}

-- whether bytes are ASCII
abbrev pub are_ascii : List ℕ → Bool
are_ascii [] = true
are_ascii (b ∷ bs) = nat_lt b 128 && are_ascii bs

pub by_test : (bs : List ℕ) → are_ascii bs ≡ true → IsAscii bs
by_test [] e = IsAscii-nil
by_test (b ∷ bs) e = go (nat_lt b 128) refl e (by_test bs)
  where
    go : (t : Bool) → nat_lt b 128 ≡ t → (t && are_ascii bs) ≡ true → (are_ascii bs ≡ true → IsAscii bs) → IsAscii (b ∷ bs)
    go true s e rest = IsAscii-cons b bs (grind (arith, nat_tests)) (rest e)
    go false s e rest = absurd cc

pub two_numbers : (word a b : List ℕ) → are_ascii word ≡ true → IsAscii a → IsAscii b
    → IsAscii ((((word ++ a) ++ (32 ∷ [])) ++ b) ++ (10 ∷ []))
two_numbers word a b w in_a in_b =
    let to_b = ((word ++ a) ++ (32 ∷ [])) ++ b in
    let first : IsAscii (word ++ a) = IsAscii-append word a (by_test word w) in_a in
    let second : IsAscii to_b =
    IsAscii-append ((word ++ a) ++ (32 ∷ [])) b (IsAscii-append (word ++ a) (32 ∷ []) first (by_test (32 ∷ []) refl)) in_b in
    IsAscii-append to_b (10 ∷ []) second (by_test (10 ∷ []) refl)

pub three_numbers : (word a b c : List ℕ) → are_ascii word ≡ true → IsAscii a → IsAscii b → IsAscii c
    → IsAscii ((((((word ++ a) ++ (32 ∷ [])) ++ b) ++ (32 ∷ [])) ++ c) ++ (10 ∷ []))
three_numbers word a b c w in_a in_b in_c =
    let to_b = ((word ++ a) ++ (32 ∷ [])) ++ b in
    let to_c = (to_b ++ (32 ∷ [])) ++ c in
    let first : IsAscii (word ++ a) = IsAscii-append word a (by_test word w) in_a in
    let second : IsAscii to_b =
    IsAscii-append ((word ++ a) ++ (32 ∷ [])) b (IsAscii-append (word ++ a) (32 ∷ []) first (by_test (32 ∷ []) refl)) in_b in
    let all : IsAscii to_c =
    IsAscii-append (to_b ++ (32 ∷ [])) c (IsAscii-append to_b (32 ∷ []) second (by_test (32 ∷ []) refl)) in_c in
    IsAscii-append to_c (10 ∷ []) all (by_test (10 ∷ []) refl)
