-- Laws of what is told: bytes that are written in parts.
use Rattle.std.proofs.Common.{◌≡◌, ◌+◌, ◌-◌, ℕ, List, length, take, drop, sym, arith}
use Rattle.std.proofs.Common.{length-drop}
use Rattle.std.specs.Prelude.{Option}
use Rattle.std.specs.Io.KnownBytes.{Appends}
use Rattle.std.proofs.Math.Seq.{take-add}
use Rattle.std.proofs.lemmas.List.{take_all}
use Rattle.base_lemmas.proofs.Lemmas.{appends-more, appends-none}

rest_whole : (i : ℕ) (xs : List ℕ) → take (length xs - i) (drop i xs) ≡ drop i xs
rest_whole i xs = take_all (length xs - i) (drop i xs) (omega (arith, length-drop i xs))

-- the step of a loop that hands out the rest, from i on, of which n bytes are taken
pub appends-take_more : (before mid after : Option (List ℕ)) (i n : ℕ) (xs : List ℕ)
    → Appends before mid (take i xs) → Appends mid after (take n (take (length xs - i) (drop i xs)))
    → Appends before after (take (i + n) xs)
appends-take_more before mid after i n xs begun more =
    let rest = take (length xs - i) (drop i xs) in
    rw (take-add i n xs, sym (rest_whole i xs)) (appends-more before mid after (take i xs) (take n rest) begun more)

-- for a loop that writes part after part
pub ruleset parts = (appends-none, appends-take_more)
