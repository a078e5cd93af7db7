-- What `watch` and `watch_node` answer.
use Rattle.std.specs.Prelude.{◌≡◌, ◌≢◌, ◌+◌, true, List, [], ◌++◌, All, map, Option, Some, None, Result, Ok, Err}
use Rattle.tcc_base.specs.declared.access.Commit.{Commit as Noted}
use Rattle.rules_maps.specs.Bridge.{node_of}
use Rattle.rules_maps.specs.Nodes.{Event}
use Rattle.rules_tcc.specs.Step.{Stepped, is_node, next_history}
use Rattle.net_core.specs.Answers.{Kept, step_of}
use Rattle.net_core.specs.Machine.{Machine, history_of, program_of, settings_of}
use Rattle.net_core.specs.declared.taking.Step.{Step}
use Rattle.net_core.specs.declared.taking.Step.TheVariants.{Moved, Committed}
use Rattle.net_core.specs.declared.taking.StepError.{StepError}
use Rattle.net_core.specs.declared.taking.StepError.TheVariants.{Refused, Memory}
use Rattle.watch.specs.Happened.{actor, happened}
use Rattle.watch.specs.Messages.{commit_of}
use Rattle.watch.specs.Plain.{fact_of}
use Rattle.watch.specs.declared.fact.Fact.{Fact}
use Rattle.watch_machine.specs.Telling.{HasRoomFor, last_facts}

-- the commit that a step noted, by the rules
abbrev pub noted_by : Option Stepped → Option Noted
noted_by None = None
noted_by (Some o) = o.noted

-- the commit of the TID that a step told of
abbrev pub told_commit : Step → List Noted → Option Noted
told_commit Moved cs = None
told_commit (Committed t) cs = commit_of t.0 cs

-- the event was taken; these facts, and behind them those of what it sent, are what it did; what it sent goes to nodes that exist; and the
-- step tells of the commit that was noted
pub record TookAndToldOfNode (old new : Machine) (e : Event) (facts : List Fact) (step : Step) : Type 0 where
  pub next : next_history (settings_of old) (program_of old) (history_of old) e ≡ Some (history_of new)
  pub told : map fact_of facts ++ last_facts new (actor e) ≡ happened (settings_of old) (program_of old) (history_of old) e
  pub room : HasRoomFor new (actor e)
  pub ends : All (λ m. is_node (settings_of new) (node_of m.0) ≡ true) new.last
  pub settled : new.unsent ≡ []
  pub events : new.events ≡ old.events + 1
  pub code : new.cores.code ≡ old.cores.code
  pub noted : told_commit step new.commits ≡ noted_by (step_of old e)

-- or it isn't enabled, and nothing happened; or memory was wanting
abbrev pub WatchedNode : (old new : Machine) → Event → List Fact → Result Step StepError → Type 0
WatchedNode old new e facts (Ok step) = TookAndToldOfNode old new e facts step
WatchedNode old new e facts (Err Refused) = Kept old new × (step_of old e ≡ None)
WatchedNode old new e facts (Err Memory) = step_of old e ≢ None

-- the event was taken, and these facts are what it did
pub record TookAndTold (old new : Machine) (e : Event) (facts : List Fact) : Type 0 where
  pub next : next_history (settings_of old) (program_of old) (history_of old) e ≡ Some (history_of new)
  pub told : map fact_of facts ≡ happened (settings_of old) (program_of old) (history_of old) e
  pub settled : new.unsent ≡ []
  pub events : new.events ≡ old.events + 1
  pub code : new.cores.code ≡ old.cores.code

-- or it isn't enabled, and nothing happened; or memory was wanting
abbrev pub Watched : (old new : Machine) → Event → List Fact → Result (Unit {0}) StepError → Type 0
Watched old new e facts (Ok u) = TookAndTold old new e facts
Watched old new e facts (Err Refused) = Kept old new × (step_of old e ≡ None)
Watched old new e facts (Err Memory) = step_of old e ≢ None
