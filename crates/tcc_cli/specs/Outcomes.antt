-- The search for all results of a program, and its table.
use Rattle.std.specs.Prelude.{ℕ, ◌≡◌, ◌≤◌, ◌<◌, ◌⊎◌, Bool, List, None, IsFalse, IsTrue, length, take}
use Rattle.std.specs.Io.KnownBytes.{Appends}
use Rattle.image_load.specs.Contents.{started}
use Rattle.image_load.specs.Start.{Start}
use Rattle.text_outcomes.specs.Table.{table_of, table_text}
use Rattle.text_outcomes.specs.declared.writing.Broken.{Broken}
use Rattle.text_outcomes.specs.declared.writing.Broken.TheVariants as broken
use Rattle.run_outcomes.specs.Counted.{Counts, all_running}
use Rattle.run_outcomes.specs.Explored.{AreFound, AreLed, IsOpen}
use Rattle.run_outcomes.specs.HowMany.{HowMany, IsFirst}
use Rattle.run_outcomes.specs.Outcomes.{HasEveryOutcome}
use Rattle.run_outcomes.specs.Results.{AreApart, AreCounted, AreEnds, AreLeast, IsEnd, IsTold}
use Rattle.run_outcomes.specs.Explored.{state_at}
use Rattle.run_outcomes.specs.Stuck.{CannotEnd}
use Rattle.run_outcomes.specs.Tried.{HasTried}
use Rattle.run_outcomes.specs.Ways.{Explored}
use Rattle.run_outcomes.specs.declared.outcomes.Results.{Results}
use Rattle.run_outcomes.specs.declared.outcomes.Tell.{Tell}
use Rattle.run_outcomes.specs.declared.search.Limits.{Limits}
use Rattle.run_outcomes.specs.declared.stuck.Stuck.{Stuck}
use Rattle.tcc_cli.specs.Lines.{IsCut, IsWhole}
use Rattle.tcc_world.specs.Page.{Written}
use Rattle.tcc_cli.specs.declared.refusal.Refusal.{Refusal}
use Rattle.tcc_cli.specs.declared.refusal.Refusal.TheVariants as why

-- The states that were found, each once, and reached by the transactions that lead to it, are no more than the limit. Where the search
-- is done each serial execution of the program ends in one of them; where it isn't, a transaction didn't end or there is a further state.
-- How many transactions ended and how many didn't is exact in both cases, and so is which was the first that didn't.
pub record AreSearched (limits : Limits) (e : Explored) : Type 0 where
  pub found : AreFound e.loaded e.states
  pub led : AreLed e.loaded e.states e.ways
  pub few : length e.states ≤ limits.states
  pub tried : HasTried limits e
  pub transactions : IsTrue e.done → Counts e.transactions (all_running e.loaded.settings.cores e.states (length e.states))
  pub unfinished : IsFalse e.done → IsOpen e.loaded e.states limits.states e.endless

-- The results among these states: those in which all cores have ended, no two that tell the same, each by the first state that tells it
-- and with how many tell it. Where the search is done the program has no other.
pub record AreResults (tell : Tell) (e : Explored) (r : Results) : Type 0 where
  pub ends : AreEnds e.states r.firsts
  pub apart : AreApart tell e.states r.firsts
  pub least : AreLeast tell e.states r.firsts
  pub all : (k : ℕ) → k < length e.states → IsEnd (state_at e.states k) → IsTold tell e.states r.firsts k
  pub counts : AreCounted tell e.states r.firsts r.counts (length e.states)
  pub done : r.done ≡ e.done
  pub every : IsTrue r.done → HasEveryOutcome e.loaded tell e.states r.firsts

-- from how many of these states no end can be reached, and the first of them; nothing is told where the search isn't done
pub record AreStuck (e : Explored) (s : Stuck) : Type 0 where
  pub count : IsTrue e.done → HowMany (CannotEnd e.loaded e.states) (length e.states) s.count
  pub first : IsTrue e.done → IsFirst (CannotEnd e.loaded e.states) (length e.states) s.first
  pub unknown : IsFalse e.done → s ≡ record { count = 0; first = None }

-- The table of the results of the program that starts so. By `HasEveryOutcome` and the laws of tables it has all of them where it is done.
pub record IsTable (s : Start) (limits : Limits) (tell : Tell) (done : Bool) (text : List ℕ) : Type 0 where
  pub explored : Explored
  pub results : Results
  pub stuck : Stuck
  pub start : started explored.loaded ≡ s
  pub searched : AreSearched limits explored
  pub told : AreResults tell explored results
  pub ends : AreStuck explored stuck
  pub is_done : done ≡ results.done
  pub text_is : text ≡ table_text tell (table_of explored results stuck)

-- the table was written whole
abbrev pub IsTableTold : Start → Limits → Tell → Written → (done : Bool) → Type 0
IsTableTold s limits tell o done = (text : List ℕ) × IsTable s limits tell done text × IsWhole text o

-- a first part of the table was written, and not all of it
abbrev pub IsTableBegun : Start → Limits → Tell → Written → Type 0
IsTableBegun s limits tell o =
    (done : Bool) × (text : List ℕ) × IsTable s limits tell done text
    × ((n : ℕ) × (n < length text) × Appends o.before.bytes o.after.bytes (take n text))

-- why the table broke off
abbrev pub IsTableStopped : Start → Limits → Tell → Written → Refusal → Type 0
IsTableStopped s limits tell o why.Output = (done : Bool) × (text : List ℕ) × IsTable s limits tell done text × IsCut text o
IsTableStopped s limits tell o why.Memory = (o.after.bytes ≡ o.before.bytes) ⊎ IsTableBegun s limits tell o
IsTableStopped s limits tell o _ = ⊥

-- what a table that broke off is to the program
abbrev pub table_refusal : Broken → Refusal
table_refusal broken.Memory = why.Memory
table_refusal broken.Output = why.Output
