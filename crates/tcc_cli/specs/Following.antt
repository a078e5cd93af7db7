-- A run whose transactions commit in the order of a list.
use Rattle.std.specs.Prelude.{ℕ, ◌≡◌, ◌<◌, Bool, List, map, length, IsSome}
use Rattle.tcc_base.specs.Limits.{run_limit}
use Rattle.run_follow.specs.Following.{Agree, followed_by}
use Rattle.run_follow.specs.Laws.{Keeps}
use Rattle.image_load.specs.Start.{Start}
use Rattle.rv_plain.specs.PlainState.{order_of}
use Rattle.serial_tool.specs.Lists.{IsList}
use Rattle.serial_tool.specs.Runs.{serial_by}
use Rattle.serial_tool.specs.declared.reading.Listed.{Listed}
use Rattle.tcc_cli.specs.Runs.{run_text}
use Rattle.tcc_cli.specs.Schedules.{Ran}
use Rattle.tcc_msg.specs.Plain.{event_of}
use Rattle.tcc_msg.specs.declared.event.Event.{Event}
use Rattle.rules_program.specs.Plain.{Order}

-- the list of these bytes names these transactions, and the plain machine executes them from the start on, whole
pub record IsListed (s : Start) (bytes : List ℕ) (orders : List Order) : Type 0 where
  pub listed : List Listed
  pub list : IsList s.settings.cores bytes listed
  pub executed : IsSome (serial_by s listed)
  pub orders_are : orders ≡ map (λ l. order_of l.order) listed

-- this is the schedule of at most 4,194,304 events that follows these transactions
abbrev pub Follows : Start → List Order → List Event → Type 0
Follows s orders es = map event_of es ≡ followed_by s orders run_limit

abbrev pub IsFollowed : Start → (bytes : List ℕ) → List Event → Type 0
IsFollowed s bytes es = (orders : List Order) × IsListed s bytes orders × Follows s orders es

-- A run by the schedule that follows a list, with the text of its end. Its commits are the first of the list's transactions, in their
-- order. They are all of them where it is done, and where it took fewer events than there may be: it isn't stuck before the list's end.
pub record RanFollowing (s : Start) (bytes : List ℕ) (IsKept : List Event → Type 0) (done : Bool) (text : List ℕ) : Type 0 where
  pub orders : List Order
  pub listed : IsListed s bytes orders
  pub ran : Ran s (λ es. Follows s orders es × IsKept es) (run_text s) done text
  pub keeps : Keeps s orders ran.ends
  pub all : length ran.events < run_limit → Agree ran.ends.commits orders
