-- Texts of rows. A row is a word and numbers, separated by single spaces and ended by a line feed: `core 3 2147483648 0 17`. Numbers
-- are decimal, without leading zeros.
use Rattle.std.specs.Prelude.{ℕ, zero, suc, ◌+◌, ◌/◌, ◌%◌, ◌<◌, ◌≡◌, ◌==◌, ◌^◌, ◌&&◌, ◌||◌, Bool, List, [], ◌∷◌, ◌++◌, All, IsTrue}
use Rattle.std.specs.Prelude.{codes, length, nat_le, nat_lt, if◌then◌else◌}
use Rattle.std.specs.Fmt.{decimal}
use Rattle.std.specs.List.{flat_map}

pub record Row : Type 0 where
  pub word : List ℕ
  pub numbers : List ℕ

-- the last k digits of a number at most
unfoldable pub last_digits : (k : ℕ) → ℕ → List ℕ
last_digits zero n = []
last_digits (suc k) n = (if nat_lt n 10 then [] else last_digits k (n / 10)) ++ (48 + n % 10) ∷ []

-- all digits of a number; below 2^64 they are std's `decimal`, which stops after 64 digits
unfoldable pub numeral : ℕ → List ℕ
numeral n = last_digits (n + 1) n

-- a number of a row, behind a space
unfoldable pub number_text : ℕ → List ℕ
number_text n = codes " " ++ numeral n

-- the text of a row
unfoldable pub row_text : Row → List ℕ
row_text row = row.word ++ (flat_map number_text row.numbers ++ codes "\n")

-- the text of rows, one after another
unfoldable pub rows_text : List Row → List ℕ
rows_text rows = flat_map row_text rows

-- a digit, a capital letter, a small letter, or `-`
unfoldable pub is_word_byte : ℕ → Bool
is_word_byte b = (nat_le 48 b && nat_le b 57) || (nat_le 65 b && nat_le b 90) || (nat_le 97 b && nat_le b 122) || b == 45

-- a word has at least one byte, and letters, digits and `-` alone
pub record IsWord (word : List ℕ) : Type 0 where
  pub some : 0 < length word
  pub bytes : All (λ b. IsTrue (is_word_byte b)) word

-- the row begins with a word
abbrev pub HasWord : Row → Type 0
HasWord row = IsWord row.word

-- each number is below 2^64
abbrev pub AreNumbers : List ℕ → Type 0
AreNumbers numbers = All (λ n. n < 2 ^ 64) numbers

-- the rows that have a text
pub record IsRow (row : Row) : Type 0 where
  pub word : IsWord row.word
  pub numbers : AreNumbers row.numbers

-- these digits write the number, which is below 2^64
abbrev pub IsNumber : List ℕ → ℕ → Type 0
IsNumber digits n = (digits ≡ decimal n) × (n < 2 ^ 64)
