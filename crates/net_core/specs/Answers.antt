-- What the calls that take events answer.
use Rattle.std.specs.Prelude.{ℕ, ◌+◌, ◌≡◌, ◌≢◌, List, ◌++◌, length, map, take, Option, Some, None, option_map, slice_get, Result, Ok, Err}
use Rattle.tcc_base.specs.declared.names.Tid.{Tid}
use Rattle.rules_maps.specs.Nodes.{Node, Core, Msg, Event, Exec, Evict, Deliver}
use Rattle.tcc_msg.specs.Plain.{event_of, sends_of}
use Rattle.tcc_msg.specs.declared.event.Event.{Event as CodeEvent}
use Rattle.rules_tcc.specs.Links.{sent_all}
use Rattle.rules_tcc.specs.Sends.{Sends}
use Rattle.rules_tcc.specs.State.{Link, World}
use Rattle.rules_tcc.specs.Step.{Stepped, step, next_history, run_from}
use Rattle.core_node.specs.declared.delivering.CoreError.{CoreError}
use Rattle.core_node.specs.declared.delivering.CoreError.TheVariants.{Blocked}
use Rattle.core_node.specs.declared.delivering.CoreError.TheVariants as core_error
use Rattle.net_core.specs.Machine.{Machine, settings_of, program_of, world_of, history_of}
use Rattle.net_core.specs.declared.taking.Step.{Step}
use Rattle.net_core.specs.declared.taking.Step.TheVariants.{Moved, Committed}
use Rattle.net_core.specs.declared.taking.StepError.{StepError}
use Rattle.net_core.specs.declared.taking.StepError.TheVariants.{Refused, Memory}

-- why a core's event wasn't taken
abbrev pub refusal_of : CoreError → StepError
refusal_of Blocked = Refused
refusal_of core_error.Memory = Memory

-- what the rules make of an event in this state; None: it isn't enabled
abbrev pub step_of : Machine → Event → Option Stepped
step_of m e = step (settings_of m) (program_of m) (world_of m) e

abbrev pub tid_told : Step → Option Tid
tid_told Moved = None
tid_told (Committed t) = Some t

-- the TID of the commit that the event notes
abbrev pub tid_noted : Option Stepped → Option Tid
tid_noted None = None
tid_noted (Some o) = option_map (λ c. c.tid) o.noted

-- the node that acts
abbrev pub acts_in : Event → Node
acts_in (Exec c) = Core c
acts_in (Evict c set way) = Core c
acts_in (Deliver src dst k) = dst

-- on the link from src to dst these messages stand behind as many as were sent before
pub record StandBehind (before after : World) (src dst : Node) (messages : List Msg) : Type 0 where
  pub front : Link
  pub as_many : length front ≡ length (before.net src dst)
  pub behind : after.net src dst ≡ front ++ sent_all messages

-- what the acting node sent, and nothing else, is new on its links
abbrev pub IsSent : (before after : World) → (src : Node) → Sends → Type 0
IsSent before after src sends = (dst : Node) → StandBehind before after src dst (sends dst)

-- the event was taken
pub record Took (old new : Machine) (e : Event) (told : Step) : Type 0 where
  pub next : next_history (settings_of old) (program_of old) (history_of old) e ≡ Some (history_of new)
  pub tells : tid_told told ≡ tid_noted (step_of old e)
  pub sent : IsSent (world_of old) (world_of new) (acts_in e) (sends_of new.last)
  pub events : new.events ≡ old.events + 1
  pub code : new.cores.code ≡ old.cores.code

-- nothing happened
pub record Kept (old new : Machine) : Type 0 where
  pub history : history_of new ≡ history_of old
  pub events : new.events ≡ old.events
  pub code : new.cores.code ≡ old.cores.code

-- the event was taken, or isn't enabled, or memory was wanting for it; then nothing happened
abbrev pub Answers : (old new : Machine) → Event → Result Step StepError → Type 0
Answers old new e (Ok told) = Took old new e told
Answers old new e (Err Refused) = Kept old new × (step_of old e ≡ None)
Answers old new e (Err Memory) = Kept old new × (step_of old e ≢ None)

-- the first n of these events, one after another
abbrev pub Ran : (old new : Machine) → (n : ℕ) → List CodeEvent → Type 0
Ran old new n es =
    run_from (settings_of old) (program_of old) (map event_of (take n es)) (history_of old) ≡ Some (history_of new)

-- the first n were taken, and the one behind them isn't enabled, or memory was wanting for it
pub record StoppedAt (old new : Machine) (n : ℕ) (es : List CodeEvent) (error : StepError) : Type 0 where
  pub event : CodeEvent
  pub at : slice_get es n ≡ Some event
  pub ran : Ran old new n es
  pub refused : error ≡ Refused → step_of new (event_of event) ≡ None
  pub wanting : error ≡ Memory → step_of new (event_of event) ≢ None
