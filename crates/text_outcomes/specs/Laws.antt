-- What a table says of all serial executions of its program.
use Rattle.std.specs.Prelude.{ℕ, ◌≡◌, List, All, Contains, IfSome, IsSomeAnd}
use Rattle.image_load.specs.Contents.{Contents, started}
use Rattle.text_outcomes.specs.Table.{Outcome, Table, table_of}
use Rattle.text_outcomes.specs.Told.{machine_shown, told_text}
use Rattle.report_text.specs.Shown.{Shown}
use Rattle.run_outcomes.specs.Explored.{AreFound, AreLed}
use Rattle.run_outcomes.specs.Outcomes.{HaveEnded, HasEveryOutcome}
use Rattle.run_outcomes.specs.Results.{AreEnds}
use Rattle.run_outcomes.specs.Ways.{Explored}
use Rattle.run_outcomes.specs.declared.outcomes.Results.{Results}
use Rattle.run_outcomes.specs.declared.outcomes.Tell.{Tell}
use Rattle.run_outcomes.specs.declared.stuck.Stuck.{Stuck}
use Rattle.rv_code.specs.Machine.{program}
use Rattle.rv_plain.specs.Machine.{plain_start}
use Rattle.rules_program.specs.Plain.{Order, serial}

-- one of the table's outcomes has just the lines that are told of this
abbrev pub HasOutcome : Tell → Table → Shown → Type 0
HasOutcome tell t s = (o : Outcome) × Contains t.outcomes o × (told_text tell o.shown ≡ told_text tell s)

-- Where the results are all that there are, as they are of an exploration that is done: whatever transactions the program executes, one
-- after another, where all cores have ended after them one of the outcomes has just the lines that are told of the machine.
abbrev pub TablesTellEveryEnd : Type 0
TablesTellEveryEnd =
    (tell : Tell) (e : Explored) (r : Results) (stuck : Stuck) → HasEveryOutcome e.loaded tell e.states r.firsts
    → (last : ℕ) (orders : List Order)
    → IfSome (serial e.loaded.settings.base (program (started e.loaded)) last orders (plain_start (started e.loaded)))
    (λ x. HaveEnded e.loaded.settings.cores x.0 → HasOutcome tell (table_of e r stuck) (machine_shown e.loaded x.0))

-- the transactions of an outcome are a serial execution of the program, after which all cores have ended, and what is shown of the
-- outcome is shown of the machine after them
abbrev pub IsReached : Contents → Outcome → Type 0
IsReached l o =
    IsSomeAnd (serial l.settings.base (program (started l)) 0 o.way (plain_start (started l)))
    (λ x. HaveEnded l.settings.cores x.0 × (o.shown ≡ machine_shown l x.0))

-- Each outcome of a table is reached, also where not all states were found.
abbrev pub TablesTellOnlyEnds : Type 0
TablesTellOnlyEnds =
    (e : Explored) (r : Results) (stuck : Stuck) → AreFound e.loaded e.states → AreLed e.loaded e.states e.ways
    → AreEnds e.states r.firsts → All (IsReached e.loaded) (table_of e r stuck).outcomes
