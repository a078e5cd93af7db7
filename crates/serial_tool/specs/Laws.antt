-- What two answers about one file have in common, and what the pieces of a list have to do with the whole.
use Rattle.std.specs.Prelude.{ℕ, ◌≤◌, ◌≡◌, ◌++◌, List, None, length, map}
use Rattle.image_load.specs.Start.{Start}
use Rattle.serial_tool.specs.Lists.{IsFirstFault, IsList}
use Rattle.rules_program.specs.Orders.{joined}
use Rattle.rv_plain.specs.PlainState.{PlainState}
use Rattle.serial_tool.specs.PlainTexts.{HasText, fresh, plain_text}
use Rattle.serial_tool.specs.Runs.{Beginning, IsStuckAt, IsStuckFrom, serial_by, serial_from, tid_after}
use Rattle.serial_tool.specs.declared.reading.Listed.{Listed}

-- bytes have one list at most, in a machine of at most 64 cores
abbrev pub ListsAreAlike : Type 0
ListsAreAlike =
    (cores : ℕ) (bytes : List ℕ) (a b : List Listed) → cores ≤ 64 → IsList cores bytes a → IsList cores bytes b → a ≡ b

-- one first faulty line at most
abbrev pub FaultsAreAlike : Type 0
FaultsAreAlike = (cores : ℕ) (bytes : List ℕ) (j k : ℕ) → IsFirstFault cores bytes j → IsFirstFault cores bytes k → j ≡ k

-- and not both
abbrev pub FaultsHaveNoList : Type 0
FaultsHaveNoList =
    (cores : ℕ) (bytes : List ℕ) (listed : List Listed) (k : ℕ) → IsList cores bytes listed → IsFirstFault cores bytes k → ⊥

-- one line at most is that of the first order that can't be executed
abbrev pub RunFaultsAreAlike : Type 0
RunFaultsAreAlike = (s : Start) (listed : List Listed) (j k : ℕ) → IsStuckAt s listed j → IsStuckAt s listed k → j ≡ k

-- and then the orders have no serial execution
abbrev pub RunFaultsHaveNoRun : Type 0
RunFaultsHaveNoRun = (s : Start) (listed : List Listed) (k : ℕ) → IsStuckAt s listed k → serial_by s listed ≡ None

-- the same of an execution that begins anywhere
abbrev pub PieceFaultsAreAlike : Type 0
PieceFaultsAreAlike = (b : Beginning) (listed : List Listed) (j k : ℕ) → IsStuckFrom b listed j → IsStuckFrom b listed k → j ≡ k

abbrev pub PieceFaultsHaveNoRun : Type 0
PieceFaultsHaveNoRun = (b : Beginning) (listed : List Listed) (k : ℕ) → IsStuckFrom b listed k → serial_from b listed ≡ None

-- executing a list is executing its first orders, and then the others from the machine after them, with the last TID of the first
abbrev pub PiecesJoin : Type 0
PiecesJoin =
    (b : Beginning) (xs ys : List Listed)
    → serial_from b (xs ++ ys) ≡ joined (serial_from b xs) (λ m. serial_from (record b { machine = m; last = tid_after b.last xs }) ys)

-- two machines with RAM of one size and one text have the same last TID, RAM, and cores, but for what these printed or reserved
abbrev pub MachinesAreAlike : Type 0
MachinesAreAlike =
    (a b : PlainState) (s t : ℕ) → HasText a s → HasText b t → length a.ram ≡ length b.ram → plain_text a s ≡ plain_text b t
    → (s ≡ t) × (a.ram ≡ b.ram) × (map fresh a.cores ≡ map fresh b.cores)
