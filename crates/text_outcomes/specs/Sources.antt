-- What a table is made from.
use Rattle.std.specs.Prelude.{◌≡◌, ◌<◌, IfSome, length}
use Rattle.text_outcomes.specs.Table as text
use Rattle.text_outcomes.specs.declared.table.Table.{Table}
use Rattle.run_outcomes.specs.Explored.{AreFound}
use Rattle.run_outcomes.specs.Results.{AreEnds}

-- the program is the one that was explored, and the numbers are those of its states
pub record IsOne (t : Table) : Type 0 where
  pub loaded : t.explored.now.loaded ≡ t.loaded.now
  pub found : AreFound t.loaded.now t.explored.now.states
  pub ends : AreEnds t.explored.now.states t.results.now.firsts
  pub endless : IfSome t.explored.now.endless_at (λ pair. pair.state < length t.explored.now.states)
  pub stuck : IfSome t.stuck.first (λ k. k < length t.explored.now.states)

-- its table
abbrev pub table_of : Table → text.Table
table_of t = text.table_of t.explored.now t.results.now t.stuck
