-- What stands in front of some bytes.
use Rattle.std.specs.Prelude.{ℕ, ◌≤◌, ◌<◌, ◌^◌, ◌≡◌, List, ◌∷◌, ◌++◌, length, slice_index}
use Rattle.std.specs.List.{flat_map}
use Rattle.row_text.specs.Rows.{AreNumbers, IsWord, number_text, row_text}

-- a word or a number has ended: the bytes are none, or begin with a space, a line feed or another byte up to 32
abbrev pub EndsField : List ℕ → Type 0
EndsField rest = slice_index rest 0 ≤ 32

-- a word stands in front, and this follows it
pub record IsWordRead (bytes word rest : List ℕ) : Type 0 where
  pub parts : bytes ≡ word ++ rest
  pub formed : IsWord word
  pub ends : EndsField rest

abbrev pub HasNoWord : List ℕ → Type 0
HasNoWord bytes = (word rest : List ℕ) → IsWordRead bytes word rest → ⊥

-- a space and a number stand in front, and this follows it
pub record IsNumberRead (bytes : List ℕ) (n : ℕ) (rest : List ℕ) : Type 0 where
  pub parts : bytes ≡ number_text n ++ rest
  pub fits : n < 2 ^ 64
  pub ends : EndsField rest

abbrev pub HasNoNumber : List ℕ → Type 0
HasNoNumber bytes = (n : ℕ) (rest : List ℕ) → IsNumberRead bytes n rest → ⊥

-- numbers of a row and its line feed stand in front, and this follows them
pub record IsTailRead (bytes numbers rest : List ℕ) : Type 0 where
  pub parts : bytes ≡ flat_map number_text numbers ++ (10 ∷ rest)
  pub fit : AreNumbers numbers

-- so many numbers of a row and its line feed don't
abbrev pub HasNoNumbers : List ℕ → (count : ℕ) → Type 0
HasNoNumbers bytes count = (numbers rest : List ℕ) → length numbers ≡ count → IsTailRead bytes numbers rest → ⊥

-- numbers of a row stand in front, and this follows them; where it is no line feed, the row hasn't so many numbers
pub record AreNumbersRead (bytes numbers rest : List ℕ) : Type 0 where
  pub parts : bytes ≡ flat_map number_text numbers ++ rest
  pub fit : AreNumbers numbers
  pub only : HasNoNumbers rest 0 → HasNoNumbers bytes (length numbers)

-- a row stands in front, and this follows it
pub record IsRowRead (bytes word numbers rest : List ℕ) : Type 0 where
  pub parts : bytes ≡ row_text (record { word = word; numbers = numbers }) ++ rest
  pub fit : AreNumbers numbers

-- no row with this word and so many numbers does
abbrev pub HasNoRow : (bytes word : List ℕ) → (count : ℕ) → Type 0
HasNoRow bytes word count = (numbers rest : List ℕ) → length numbers ≡ count → IsRowRead bytes word numbers rest → ⊥
