-- What is told of a machine all of whose cores have ended: the lines that a report has of it, or some of them.
use Rattle.std.specs.Prelude.{ℕ, List, [], ◌∷◌, ◌++◌, ◌+◌, ◌/◌, ◌≡◌, length}
use Rattle.image_load.specs.Contents.{Contents, started}
use Rattle.report_text.specs.Lines.{core_line}
use Rattle.report_text.specs.Plain.{shown_core, shown_plain}
use Rattle.report_text.specs.Shown.{Shown, ShownCore}
use Rattle.report_text.specs.Text.{console_text, cores_text, ram_text}
use Rattle.run_outcomes.specs.Changes.{AreInside, AreNormal}
use Rattle.run_outcomes.specs.States.{machine_of}
use Rattle.run_outcomes.specs.declared.outcomes.Tell.{Tell}
use Rattle.run_outcomes.specs.declared.outcomes.Tell.TheVariants.{Consoles, Memory, Everything}
use Rattle.run_outcomes.specs.declared.states.Snapshot.{Snapshot}
use Rattle.image_load.specs.Start.{first_ram}
use Rattle.rv_plain.specs.Cores.{core_of}
use Rattle.rv_plain.specs.declared.plain.CoreState.{CoreState}
use Rattle.rules_program.specs.Plain.{Plain}

-- how a core ended, and what it has printed
unfoldable pub end_text : (core : ℕ) → ShownCore → List ℕ
end_text core c = core_line core c.ended ++ console_text c.console

-- so of the cores from this number on
unfoldable pub ends_text : (core : ℕ) → List ShownCore → List ℕ
ends_text core [] = []
ends_text core (c ∷ cs) = end_text core c ++ ends_text (core + 1) cs

-- the words of RAM that are not as they were loaded
abbrev pub memory_text : Shown → List ℕ
memory_text s = ram_text s.base s.count s.ram s.loaded

-- what is told of what a report shows
unfoldable pub told_text : Tell → Shown → List ℕ
told_text Consoles s = ends_text 0 s.cores
told_text Memory s = ends_text 0 s.cores ++ memory_text s
told_text Everything s = cores_text 0 s.cores ++ memory_text s

-- what is shown of a plain machine, without commits
abbrev pub machine_shown : Contents → Plain → Shown
machine_shown l m = shown_plain l.settings.cores l.settings.base (l.settings.ram / 4) (started l).word [] m

abbrev pub state_shown : Contents → Snapshot → Shown
state_shown l s = machine_shown l (machine_of l s)

abbrev pub core_shown : CoreState → ShownCore
core_shown c = shown_core (core_of c)

-- a state of the program: it has the program's cores, and its changes are of words in RAM, as only one list tells them
pub record IsNormal (l : Contents) (s : Snapshot) : Type 0 where
  pub sized : length s.cores ≡ l.settings.cores
  pub inside : AreInside (l.settings.ram / 4) s.changes
  pub normal : AreNormal (first_ram (started l)) s.changes
