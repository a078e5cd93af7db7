-- The grammar of an order's line: `commit TID CORE N`.
use Rattle.std.specs.Prelude.{ℕ, ◌<◌, ◌≤◌, ◌≡◌, List, ◌++◌, codes}
use Rattle.std.specs.Fmt.{decimal}
use Rattle.tcc_base.specs.Limits.{text_limit}
use Rattle.rv_plain.specs.declared.plain.Order.{Order}
use Rattle.serial_tool.specs.declared.fields.LineContent.{LineContent}
use Rattle.serial_tool.specs.declared.fields.LineContent.TheVariants.{Other, Ordered, Faulty}

-- the largest TID of an order
abbrev pub tid_limit : ℕ
tid_limit = text_limit

-- the largest number of instructions of an order
abbrev pub count_limit : ℕ
count_limit = text_limit

-- the word with which an order's line begins
abbrev pub commit_word : List ℕ
commit_word = codes "commit "

-- the three numbers of an order: its TID, its core and how many instructions it has, in decimal digits without leading zeros
unfoldable pub numbers_text : Order → List ℕ
numbers_text o = decimal o.tid.0 ++ codes " " ++ decimal o.core.0 ++ codes " " ++ decimal o.n

-- the line of an order, without what ends it
abbrev pub order_text : Order → List ℕ
order_text o = commit_word ++ numbers_text o

-- the orders that a line may list, in a machine of so many cores
pub record IsPossible (cores : ℕ) (o : Order) : Type 0 where
  pub tid_counts : 1 ≤ o.tid.0
  pub tid_fits : o.tid.0 ≤ tid_limit
  pub core_there : o.core.0 < cores
  pub n_counts : 1 ≤ o.n
  pub n_fits : o.n ≤ count_limit

-- the line is the order's
abbrev pub IsOrderLine : (cores : ℕ) → List ℕ → Order → Type 0
IsOrderLine cores line o = (line ≡ order_text o) × IsPossible cores o

-- the line begins as an order's does
abbrev pub IsCommitLine : List ℕ → Type 0
IsCommitLine line = (rest : List ℕ) × (line ≡ commit_word ++ rest)

-- the line begins so, but is no order's
abbrev pub IsFaulty : (cores : ℕ) → List ℕ → Type 0
IsFaulty cores line = IsCommitLine line × ((o : Order) → IsOrderLine cores line o → ⊥)

-- what a line tells
abbrev pub Tells : (cores : ℕ) → List ℕ → LineContent → Type 0
Tells cores line Other = IsCommitLine line → ⊥
Tells cores line (Ordered o) = IsOrderLine cores line o
Tells cores line Faulty = IsFaulty cores line

-- these are the numbers of the order
abbrev pub IsNumbers : (cores : ℕ) → List ℕ → Order → Type 0
IsNumbers cores text o = (text ≡ numbers_text o) × IsPossible cores o
