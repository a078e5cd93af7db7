-- What is counted of a run.
use Rattle.std.specs.Prelude.{ℕ, ◌≡◌, ◌+◌, Bool, List, [], ◌∷◌, ◌++◌, Option, Some, None, length}
use Rattle.image_load.specs.Contents.{Contents, started}
use Rattle.image_load.specs.Start.{Start}
use Rattle.rv_code.specs.Machine.{program}
use Rattle.net_core.specs.Machine.{Machine, history_of}
use Rattle.rules_maps.specs.Nodes.{Node, Event}
use Rattle.rules_maps.specs.Shape.{Shape}
use Rattle.rules_program.specs.Program.{Program}
use Rattle.rules_tcc.specs.Step.{History, next_history, run}
use Rattle.rules_riscv.specs.Starting.{at_start, world_at_start}
use Rattle.watch.specs.Facts.{Fact}
use Rattle.watch.specs.Happened.{actor, happened}
use Rattle.watch_count.specs.Counts.{Counts, nothing_counted, run_counted}
use Rattle.watch_run.specs.Forgetting.{IsKeptOf}
use Rattle.watch_run.specs.Written.{LeadsTo}

abbrev pub and_later : Node × List Fact → (History → List (Node × List Fact)) → Option History → List (Node × List Fact)
and_later first later None = []
and_later first later (Some h) = first ∷ later h

-- each event's node and its facts, from this state on, up to the first that isn't enabled
unfoldable pub run_facts : Shape → Program → List Event → History → List (Node × List Fact)
run_facts sh p [] h = []
run_facts sh p (e ∷ es) h = and_later (actor e, happened sh p h e) (run_facts sh p es) (next_history sh p h e)

-- what is counted of a run by these events
unfoldable pub counts_of_run : Start → List Event → Counts
counts_of_run s es = run_counted (run_facts s.settings (program s) es (at_start s)) (nothing_counted s.settings.cores)

-- the run was counted to its end
pub record IsCounted (s : Start) (es : List Event) (done : Bool) (events : ℕ) (counts : Counts) : Type 0 where
  pub ends : History
  pub leads : LeadsTo s es done ends
  pub all : events ≡ length es
  pub counted : counts ≡ counts_of_run s es

-- these events were taken from the start of what was loaded, and were counted; the machine keeps what is asked for of their history
pub record HasCounted (c : Contents) (es : List Event) (m : Machine) (counts : Counts) : Type 0 where
  pub ends : History
  pub ran : run c.settings (program (started c)) (world_at_start (started c)) es ≡ Some ends
  pub kept : IsKeptOf c.settings (history_of m) ends
  pub counted : counts ≡ counts_of_run (started c) es
  pub settled : m.unsent ≡ []
  pub events : m.events ≡ length es
  pub code : m.cores.code ≡ c

-- the machine took these events, and what they did was counted, whatever events had led to it and were counted
pub record CountedMore (old new : Machine) (before after : Counts) (es : List Event) : Type 0 where
  pub counted : (c : Contents) (firsts : List Event) → HasCounted c firsts old before → HasCounted c (firsts ++ es) new after
  pub settled : new.unsent ≡ []
  pub events : new.events ≡ old.events + length es
  pub code : new.cores.code ≡ old.cores.code
