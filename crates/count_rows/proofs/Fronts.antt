-- What follows a row is shorter: the row has its line feed at least.
use Rattle.std.proofs.Common.{◌≡◌, ◌++◌, ◌<◌, ◌+◌, ℕ, List, Option, Some, None, MatchOption, IfSome, Bor, ap, codes, length, ◌∙◌, arith}
use Rattle.std.proofs.lemmas.List.{length-append}
use Rattle.std.specs.List.{flat_map}
use Rattle.row_text.specs.Rows.{number_text, row_text}
use Rattle.row_text.specs.Reading.{HasNoRow, IsRowRead}

shorter : (bytes word numbers rest : List ℕ) → IsRowRead bytes word numbers rest → length rest < length bytes
unfolding row_text
shorter bytes word numbers rest read =
    let fields = flat_map number_text numbers in
    let row : length (word ++ (fields ++ codes "\n")) ≡ length word + (length fields + 1) =
    length-append word (fields ++ codes "\n") ∙ ap (λ n. length word + n) (length-append fields (codes "\n")) in
    let whole : length bytes ≡ length (word ++ (fields ++ codes "\n")) + length rest =
    ap length read.parts ∙ length-append (word ++ (fields ++ codes "\n")) rest in
    omega arith

pub row-shorter : (bytes word numbers : List ℕ) (count : ℕ) (r : Option (Bor (List ℕ)))
    → MatchOption r (HasNoRow bytes word count) (λ rest. IsRowRead bytes word numbers rest.now)
    → IfSome r (λ rest. length rest.now < length bytes)
row-shorter bytes word numbers count None read = record {}
row-shorter bytes word numbers count (Some rest) read = shorter bytes word numbers rest.now read
