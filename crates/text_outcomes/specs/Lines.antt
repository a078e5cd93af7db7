-- The lines of a table that no report has, each ended by a line feed.
use Rattle.std.specs.Prelude.{ℕ, List, ◌++◌, codes}
use Rattle.std.specs.Fmt.{decimal}
use Rattle.report_text.specs.Lines.{newline}
use Rattle.rules_program.specs.Plain.{Order}

unfoldable pub states_line : (states : ℕ) → List ℕ
states_line states = codes "states " ++ decimal states ++ newline

unfoldable pub transactions_line : (transactions : ℕ) → List ℕ
transactions_line transactions = codes "transactions " ++ decimal transactions ++ newline

unfoldable pub outcomes_line : (outcomes : ℕ) → List ℕ
outcomes_line outcomes = codes "outcomes " ++ decimal outcomes ++ newline

unfoldable pub outcome_line : (count : ℕ) → List ℕ
outcome_line count = codes "outcome " ++ decimal count ++ newline

-- the line that a report has of the commit of this order
unfoldable pub order_line : Order → List ℕ
order_line o = codes "commit " ++ decimal o.tid ++ codes " " ++ decimal o.core ++ codes " " ++ decimal o.n ++ newline

unfoldable pub endless_line : (count core : ℕ) → List ℕ
endless_line count core = codes "endless " ++ decimal count ++ codes " " ++ decimal core ++ newline

unfoldable pub stuck_line : (count : ℕ) → List ℕ
stuck_line count = codes "stuck " ++ decimal count ++ newline
