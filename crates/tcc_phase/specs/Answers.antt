-- What the calls that take events by phases answer.
use Rattle.std.specs.Prelude.{ℕ, ◌≡◌, ◌≢◌, Bool, true, false, List, map, take, Option, Some, None, slice_get}
use Rattle.rules_maps.specs.Nodes.{Event}
use Rattle.tcc_msg.specs.Plain.{event_of}
use Rattle.tcc_msg.specs.declared.event.Event.{Event as CodeEvent}
use Rattle.rules_tcc.specs.Step.{History}
use Rattle.rules_phases.specs.Phased.{phased_from, phased_next}
use Rattle.net_core.specs.Machine.{Machine, history_of, start_of}
use Rattle.net_core.specs.declared.taking.StepError.{StepError}
use Rattle.net_core.specs.declared.taking.StepError.TheVariants.{Refused, Memory}

-- what the rules of phases make of an event in this state; None: it isn't enabled, or it is held back
abbrev pub next_of : Machine → Event → Option History
next_of m e = phased_next (start_of m) (history_of m) e

-- why there is no memory for an event, or it isn't enabled
abbrev pub cause_of : (enabled : Bool) → StepError
cause_of true = Memory
cause_of false = Refused

-- the first n of these events, one after another
abbrev pub Ran : (old new : Machine) → (n : ℕ) → List CodeEvent → Type 0
Ran old new n es = phased_from (start_of old) (map event_of (take n es)) (history_of old) ≡ Some (history_of new)

-- the first n were taken, and the one behind them isn't enabled or is held back, or memory was wanting for it
pub record StoppedAt (old new : Machine) (n : ℕ) (es : List CodeEvent) (error : StepError) : Type 0 where
  pub event : CodeEvent
  pub at : slice_get es n ≡ Some event
  pub ran : Ran old new n es
  pub refused : error ≡ Refused → next_of new (event_of event) ≡ None
  pub wanting : error ≡ Memory → next_of new (event_of event) ≢ None
