-- The serial execution of the commits that a report lists.
use Rattle.std.specs.Prelude.{ℕ, List, ◌≡◌, ◌⊎◌, ◌/◌, Some}
use Rattle.image_load.specs.Start.{Start}
use Rattle.report_text.specs.Plain.{shown_plain}
use Rattle.report_text.specs.Text.{serial_text}
use Rattle.serial_tool.specs.Lists.{IsFirstFault, IsList}
use Rattle.serial_tool.specs.Runs.{IsStuckAt, serial_by}
use Rattle.serial_tool.specs.declared.reading.Listed.{Listed}
use Rattle.tcc_base.specs.declared.access.Commit.{Commit}
use Rattle.tcc_cli.specs.declared.refusal.Refusal.{Refusal}
use Rattle.tcc_cli.specs.declared.refusal.Refusal.TheVariants as why
use Rattle.rules_program.specs.Plain.{Plain}

-- the text of the plain machine after some commits
unfoldable pub list_text : Start → List Commit → Plain → List ℕ
list_text s commits m =
    serial_text (shown_plain s.settings.cores s.settings.base (s.settings.ram / 4) s.word commits m)

-- the plain machine executed these orders from the start on, all of them
pub record AreExecuted (s : Start) (orders : List Listed) (text : List ℕ) : Type 0 where
  pub commits : List Commit
  pub machine : Plain
  pub executed : serial_by s orders ≡ Some (machine, commits)
  pub text_is : text ≡ list_text s commits machine

-- why these orders aren't executed: the line of the first that can't be, or want of memory
abbrev pub AreRefused : Start → List Listed → Refusal → Type 0
AreRefused s orders (why.Schedule line) = IsStuckAt s orders line
AreRefused s orders why.Memory = Unit {0}
AreRefused s orders _ = ⊥

-- the plain machine executed the list of these bytes from the start on, whole
pub record IsExecuted (s : Start) (bytes text : List ℕ) : Type 0 where
  pub orders : List Listed
  pub commits : List Commit
  pub machine : Plain
  pub list : IsList s.settings.cores bytes orders
  pub executed : serial_by s orders ≡ Some (machine, commits)
  pub text_is : text ≡ list_text s commits machine

-- the line at which the list is refused: the first that isn't in the form of an order, or that of the first order that can't be executed
abbrev pub IsListFault : Start → (bytes : List ℕ) → (line : ℕ) → Type 0
IsListFault s bytes line =
    IsFirstFault s.settings.cores bytes line
    ⊎ ((orders : List Listed) × IsList s.settings.cores bytes orders × IsStuckAt s orders line)
