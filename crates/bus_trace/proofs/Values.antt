-- The words of a line that a mask has are the same where all others are zero.
use Rattle.std.proofs.Common.{◌≡◌, ℕ, Bool, true, false, List, [], ◌++◌, get_or, codes, refl}
use Rattle.std.specs.Prelude.{if◌then◌else◌}
use Rattle.rules_maps.specs.Masks.{has, masked}
use Rattle.rules_maps.specs.Words.{eight}
use Rattle.base_digits.specs.Digits.{hex}
use Rattle.watch_trace.specs.Words.{value_word, value_words}

one : (b : Bool) (x : ℕ)
    → codes " " ++ (if b then hex 8 (if b then x else 0) else codes "-")
    ≡ codes " " ++ (if b then hex 8 x else codes "-")
one true x = refl
one false x = refl

pub values_masked : (m : ℕ) (ws : List ℕ) → value_words m (masked m ws) ≡ value_words m ws
unfolding value_words masked eight
values_masked m ws = λ i. codes " words"
    ++ (one (has m 0) (get_or ws 0 0) i
    ++ (one (has m 1) (get_or ws 1 0) i
    ++ (one (has m 2) (get_or ws 2 0) i
    ++ (one (has m 3) (get_or ws 3 0) i
    ++ (one (has m 4) (get_or ws 4 0) i
    ++ (one (has m 5) (get_or ws 5 0) i
    ++ (one (has m 6) (get_or ws 6 0) i
    ++ (one (has m 7) (get_or ws 7 0) i ++ []))))))))
