-- What follows a row is shorter.
use Rattle.std.proofs.Common.{◌≡◌, ◌++◌, ◌<◌, ◌+◌, ℕ, List, Option, Some, None, MatchOption, IfSome, Bor, ap, codes, length, ◌∙◌, arith}
use Rattle.std.proofs.lemmas.List.{length-append}
use Rattle.std.specs.List.{flat_map}
use Rattle.row_text.specs.Rows.{number_text, numeral, row_text}
use Rattle.row_text.specs.Reading.{HasNoNumber, HasNoRow, IsNumberRead, IsRowRead}

-- a number has its space
pub after-number : (bytes rest : List ℕ) (n : ℕ) → IsNumberRead bytes n rest → length rest < length bytes
unfolding number_text
after-number bytes rest n read =
    let whole : length bytes ≡ length (codes " " ++ numeral n) + length rest =
    ap length read.parts ∙ length-append (codes " " ++ numeral n) rest in
    let first : length (codes " " ++ numeral n) ≡ 1 + length (numeral n) = length-append (codes " ") (numeral n) in
    omega arith

pub number-shorter : (bytes : List ℕ) (r : Option (ℕ × Bor (List ℕ)))
    → MatchOption r (HasNoNumber bytes) (λ x. IsNumberRead bytes x.0 x.1.now) → IfSome r (λ x. length x.1.now < length bytes)
number-shorter bytes None read = record {}
number-shorter bytes (Some x) read = after-number bytes x.1.now x.0 read

-- a row has its line feed at least
pub shorter : (bytes word numbers rest : List ℕ) → IsRowRead bytes word numbers rest → length rest < length bytes
unfolding row_text
shorter bytes word numbers rest read =
    let row = word ++ (flat_map number_text numbers ++ codes "\n") in
    let whole : length bytes ≡ length row + length rest = ap length read.parts ∙ length-append row rest in
    let first : length row ≡ length word + length (flat_map number_text numbers ++ codes "\n") =
    length-append word (flat_map number_text numbers ++ codes "\n") in
    let last : length (flat_map number_text numbers ++ codes "\n") ≡ length (flat_map number_text numbers) + 1 =
    length-append (flat_map number_text numbers) (codes "\n") in
    omega arith

pub row-shorter : (bytes word numbers : List ℕ) (count : ℕ) (r : Option (Bor (List ℕ)))
    → MatchOption r (HasNoRow bytes word count) (λ rest. IsRowRead bytes word numbers rest.now)
    → IfSome r (λ rest. length rest.now < length bytes)
row-shorter bytes word numbers count None read = record {}
row-shorter bytes word numbers count (Some rest) read = shorter bytes word numbers rest.now read
