-- What a file lists, and the first of its lines that is in no order's form.
use Rattle.std.specs.Prelude.{ℕ, ◌+◌, ◌-◌, ◌<◌, ◌≡◌, ◌==◌, ◌⊎◌, List, [], ◌∷◌, Some, All, take, slice_get}
use Rattle.std.specs.List.{slice_split}
use Rattle.rv_plain.specs.declared.plain.Order.{Order}
use Rattle.schedule_text.specs.declared.fault.TextFault.{TextFault}
use Rattle.schedule_text.specs.declared.fault.TextFault.TheVariants.{Line, Memory}
use Rattle.serial_tool.specs.Lines.{IsCommitLine, IsFaulty, IsOrderLine}
use Rattle.serial_tool.specs.declared.reading.Listed.{Listed}

-- the lines of a file: what stands between its line feeds, before the first and behind the last. A file that ends in a line feed, or
-- is empty, has an empty line at its end, which lists nothing.
abbrev pub lines_of : List ℕ → List (List ℕ)
lines_of bytes = slice_split (λ byte. byte == 10) bytes

-- these lines, the first of which has this number, list these orders: a line that doesn't begin with `commit ` lists none, and any
-- other is the line of an order
abbrev pub Lists : (cores number : ℕ) → List (List ℕ) → List Listed → Type 0
Lists cores number [] listed = listed ≡ []
Lists cores number (line ∷ lines) listed =
    ((IsCommitLine line → ⊥) × Lists cores (number + 1) lines listed)
    ⊎ ((o : Order) × (later : List Listed) × IsOrderLine cores line o × (listed ≡ record { line = number; order = o } ∷ later)
    × Lists cores (number + 1) lines later)

-- the file lists these orders; its lines count from 1
abbrev pub IsList : (cores : ℕ) → (bytes : List ℕ) → List Listed → Type 0
IsList cores bytes listed = Lists cores 1 (lines_of bytes) listed

-- line k, counted from 1, is the first that begins with `commit ` and is no order's
pub record IsFirstFault (cores : ℕ) (bytes : List ℕ) (k : ℕ) : Type 0 where
  pub line : List ℕ
  pub counted : 0 < k
  pub there : slice_get (lines_of bytes) (k - 1) ≡ Some line
  pub faulty : IsFaulty cores line
  pub before : All (λ earlier. IsFaulty cores earlier → ⊥) (take (k - 1) (lines_of bytes))

-- what an error of the reader says
abbrev pub IsReadFault : (cores : ℕ) → (bytes : List ℕ) → TextFault → Type 0
IsReadFault cores bytes (Line k) = IsFirstFault cores bytes k
IsReadFault cores bytes Memory = Unit {0}
