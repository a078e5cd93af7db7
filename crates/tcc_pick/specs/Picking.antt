-- Events of a schedule that a machine has taken, with a list of them or without one.
use Rattle.std.specs.Prelude.{ℕ, ◌+◌, ◌≡◌, List, [], ◌++◌, length, map, Some}
use Rattle.std.specs.List.{flat_map}
use Rattle.rand_pcg.specs.Lcg.{Lcg}
use Rattle.rules_maps.specs.Nodes.{Event}
use Rattle.tcc_msg.specs.Plain.{event_of}
use Rattle.tcc_msg.specs.declared.event.Event.{Event as Listed}
use Rattle.rules_tcc.specs.Picked.{picked}
use Rattle.rules_tcc.specs.Step.{run_from}
use Rattle.net_core.specs.Machine.{Machine, history_of, program_of, settings_of, world_of}
use Rattle.tcc_refine.specs.Refined.{Refined}
use Rattle.tcc_pick.specs.Words.{words}

-- the schedule that the next n words pick from here
abbrev pub picks : (n : ℕ) → Lcg → Machine → List Event
picks n g m = picked (settings_of m) (program_of m) (words n g) (world_of m)

-- the machine took these events: they stand behind the ones that it had taken, and the rules lead by them from its state to the new one
pub record TookAll (old new : Refined) (es : List Event) : Type 0 where
  pub taken : map event_of new.taken ≡ map event_of old.taken ++ es
  pub ran : run_from (settings_of old.machine) (program_of old.machine) es (history_of old.machine) ≡ Some (history_of new.machine)
  pub events : new.machine.events ≡ old.machine.events + length es
  pub code : new.machine.cores.code ≡ old.machine.cores.code

-- it took the first ones of these
pub record TookSome (old new : Refined) (es : List Event) : Type 0 where
  pub firsts : List Event
  pub left : List Event
  pub parts : es ≡ firsts ++ left
  pub took : TookAll old new firsts

-- a machine with a list of events
abbrev pub listing : Machine → List Listed → Refined
listing m taken = record { machine = m; taken = taken }

-- the machine took these events without a list of them, and what each adds was written down behind what stood there
pub record NotedAll (old new : Machine) (es : List Event) (line : Listed → List ℕ) (before after : List ℕ) : Type 0 where
  pub taken : List Listed
  pub took : TookAll (listing old []) (listing new taken) es
  pub noted : after ≡ before ++ flat_map line taken

-- it took the first ones of these
abbrev pub TookFirst : (old new : Machine) → List Event → Type 0
TookFirst old new es = (taken : List Listed) × TookSome (listing old []) (listing new taken) es
