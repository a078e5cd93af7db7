-- The text of a program's outcomes.
use Rattle.std.specs.Prelude.{ℕ, Bool, List, [], ◌++◌, Option, Some, None, length, map, slice_index_or, codes}
use Rattle.std.specs.List.{flat_map, range_with_len}
use Rattle.text_outcomes.specs.Lines.{states_line, transactions_line, outcomes_line, outcome_line, order_line, endless_line, stuck_line}
use Rattle.text_outcomes.specs.Told.{state_shown, told_text}
use Rattle.report_text.specs.Lines.{newline, end_line}
use Rattle.report_text.specs.Shown.{Shown}
use Rattle.run_outcomes.specs.Explored.{state_at}
use Rattle.run_outcomes.specs.Ways.{Explored, orders_to}
use Rattle.run_outcomes.specs.declared.outcomes.Results.{Results}
use Rattle.run_outcomes.specs.declared.outcomes.Tell.{Tell}
use Rattle.run_outcomes.specs.declared.search.Pair.{Pair}
use Rattle.run_outcomes.specs.declared.stuck.Stuck.{Stuck as FoundStuck}
use Rattle.rules_program.specs.Plain.{Order}

-- an outcome: how many states tell it, and of the first of them the transactions that lead there and what is shown of it
pub record Outcome : Type 0 where
  pub count : ℕ
  pub way : List Order
  pub shown : Shown

-- transactions that don't end: of how many pairs of a state and a core, and of the first pair the core and the way to the state
pub record Endless : Type 0 where
  pub count : ℕ
  pub core : ℕ
  pub way : List Order

-- states from which no end can be reached: how many, and the way to the first
pub record Stuck : Type 0 where
  pub count : ℕ
  pub way : List Order

-- all that a table tells
pub record Table : Type 0 where
  pub done : Bool
  pub states : ℕ
  pub transactions : ℕ
  pub outcomes : List Outcome
  pub endless : Option Endless
  pub stuck : Option Stuck

abbrev pub way_text : List Order → List ℕ
way_text orders = flat_map order_line orders

unfoldable pub outcome_text : Tell → Outcome → List ℕ
outcome_text tell o = outcome_line o.count ++ way_text o.way ++ told_text tell o.shown

unfoldable pub endless_text : Option Endless → List ℕ
endless_text None = []
endless_text (Some e) = endless_line e.count e.core ++ way_text e.way

unfoldable pub stuck_text : Option Stuck → List ℕ
stuck_text None = []
stuck_text (Some s) = stuck_line s.count ++ way_text s.way

-- whether all was found, and how much
unfoldable pub count_lines : (done : Bool) → (states transactions outcomes : ℕ) → List ℕ
count_lines done states transactions outcomes =
    end_line done ++ states_line states ++ transactions_line transactions ++ outcomes_line outcomes

-- the lines before the first outcome
unfoldable pub first_lines : (done : Bool) → (states transactions outcomes : ℕ) → List ℕ
first_lines done states transactions outcomes = codes "tcc-outcomes 1" ++ newline ++ count_lines done states transactions outcomes

abbrev pub head_text : Table → List ℕ
head_text t = first_lines t.done t.states t.transactions (length t.outcomes)

abbrev pub outcomes_text : Tell → Table → List ℕ
outcomes_text tell t = flat_map (outcome_text tell) t.outcomes

-- the lines behind the last
unfoldable pub tail_text : Table → List ℕ
tail_text t = endless_text t.endless ++ stuck_text t.stuck

unfoldable pub table_text : Tell → Table → List ℕ
table_text tell t = head_text t ++ outcomes_text tell t ++ tail_text t

-- the outcome of that number, of what was found
abbrev pub outcome_of : Explored → Results → (i : ℕ) → Outcome
outcome_of e r i =
    let first = slice_index_or r.firsts i 0 in
    record {
      count = slice_index_or r.counts i 0;
      way = orders_to e.ways first;
      shown = state_shown e.loaded (state_at e.states first);
    }

abbrev pub endless_at : Explored → Option Pair → Option Endless
endless_at e None = None
endless_at e (Some pair) = Some (record { count = e.endless; core = pair.core.0; way = orders_to e.ways pair.state })

abbrev pub stuck_from : Explored → (count : ℕ) → (first : Option ℕ) → Option Stuck
stuck_from e count None = None
stuck_from e count (Some k) = Some (record { count = count; way = orders_to e.ways k })

-- the table of what was found
abbrev pub table_of : Explored → Results → FoundStuck → Table
table_of e r stuck = record {
  done = r.done;
  states = length e.states;
  transactions = e.transactions;
  outcomes = map (outcome_of e r) (range_with_len 0 (length r.firsts));
  endless = endless_at e e.endless_at;
  stuck = stuck_from e stuck.count stuck.first;
}
