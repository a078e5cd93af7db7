-- The parts of what is told: what is seen of a node before an event, and what is told of it behind the event.
use Rattle.std.specs.Prelude.{ℕ, ◌≡◌, ◌≢◌, ◌+◌, ◌-◌, ◌≤◌, true, List, [], ◌∷◌, All, length, Some, None, Result, Ok, Err}
use Rattle.std.specs.List.{flat_map}
use Rattle.tcc_base.specs.declared.access.Commit.{Commit}
use Rattle.rules_maps.specs.Bridge.{node_of}
use Rattle.rules_maps.specs.Nodes.{Node, Msg as PlainMsg, Inv, Event}
use Rattle.tcc_msg.specs.Plain.{msg_of, sends_of}
use Rattle.rules_tcc.specs.DirDeliver.{Answer, Waits}
use Rattle.rules_tcc.specs.State.{CoreState}
use Rattle.rules_tcc.specs.Step.{is_node, next_history}
use Rattle.rules_tcc.specs.Useful.{nodes}
use Rattle.commit_engine.specs.Engine.{phase_of}
use Rattle.net_core.specs.Answers.{Kept, IsSent, acts_in, step_of, tid_noted, tid_told}
use Rattle.net_core.specs.Machine.{Machine, history_of, program_of, settings_of, world_of}
use Rattle.net_core.specs.declared.taking.Step.{Step}
use Rattle.net_core.specs.declared.taking.StepError.{StepError}
use Rattle.net_core.specs.declared.taking.StepError.TheVariants.{Refused, Memory}
use Rattle.watch.specs.Facts.{Fact, Sent, Took, Dropped, AskedOwner}
use Rattle.watch.specs.Messages.{answered, commit_of, committer, is_of_use, words_read}
use Rattle.watch_machine.specs.declared.answering.Became.{Became}
use Rattle.watch_machine.specs.declared.answering.Became.TheVariants as became
use Rattle.watch_machine.specs.declared.delivering.SeenBy.{SeenBy}

-- the words of an invalidation that are marked read
abbrev pub words_hit : PlainMsg → CoreState → ℕ
words_hit (Inv l m t) s = words_read l m s
words_hit _ s = 0

-- the core that committed its TID
abbrev pub committer_named : PlainMsg → List Commit → ℕ
committer_named (Inv l m t) cs = committer (commit_of t cs)
committer_named _ cs = 0

-- a core was seen to which this message from src is delivered
pub record SawMessage (seen : SeenBy) (src : Node) (m : PlainMsg) (commits : List Commit) (s : CoreState) : Type 0 where
  pub msg : msg_of seen.msg ≡ m
  pub of_use : seen.of_use ≡ is_of_use src m s
  pub phase : phase_of seen.phase ≡ s.phase
  pub n : seen.n ≡ s.n
  pub words : seen.words.0 ≡ words_hit m s
  pub by : seen.by.0 ≡ committer_named m commits

-- ---- the step

-- the event was taken, and all that was sent stands on its links, between nodes that exist
pub record Advanced (old new : Machine) (e : Event) (told : Step) : Type 0 where
  pub next : next_history (settings_of old) (program_of old) (history_of old) e ≡ Some (history_of new)
  pub tells : tid_told told ≡ tid_noted (step_of old e)
  pub sent : IsSent (world_of old) (world_of new) (acts_in e) (sends_of new.last)
  pub ends : All (λ m. is_node (settings_of new) (node_of m.0) ≡ true) new.last
  pub settled : new.unsent ≡ []
  pub events : new.events ≡ old.events + 1
  pub code : new.cores.code ≡ old.cores.code

abbrev pub Advances : (old new : Machine) → Event → Result Step StepError → Type 0
Advances old new e (Ok told) = Advanced old new e told
Advances old new e (Err Refused) = Kept old new × (step_of old e ≡ None)
Advances old new e (Err Memory) = step_of old e ≢ None

-- ---- what was sent

-- these messages, numbered from k on
unfoldable pub numbered_from : (src dst : Node) → (k : ℕ) → List PlainMsg → List Fact
numbered_from src dst k [] = []
numbered_from src dst k (m ∷ ms) = Sent src dst k m ∷ numbered_from src dst (k + 1) ms

-- how many messages were sent on a link
abbrev pub count_on : Machine → (src dst : Node) → ℕ
count_on m src dst = length ((world_of m).net src dst)

-- what the last event sent to one node, as the last messages of the link
unfoldable pub last_to : Machine → (src dst : Node) → List Fact
last_to m src dst = numbered_from src dst (count_on m src dst - length (sends_of m.last dst)) (sends_of m.last dst)

-- and to all, by destination
unfoldable pub last_facts : Machine → (src : Node) → List Fact
last_facts m src = flat_map (last_to m src) (nodes (settings_of m))

-- the links are long enough for it
abbrev pub HasRoomFor : Machine → (src : Node) → Type 0
HasRoomFor m src = (dst : Node) → length (sends_of m.last dst) ≤ count_on m src dst

-- ---- what became of a message at a directory

abbrev pub told_of : Became → PlainMsg → List Fact
told_of became.Taken m = Took m ∷ []
told_of became.Dropped m = Dropped m ∷ []
told_of became.Asked m = AskedOwner m ∷ []

-- it is the directory's answer, unless that is to wait
abbrev pub IsAnswer : Became → PlainMsg → Answer → Type 0
IsAnswer b m Waits = Unit {0}
IsAnswer b m a = told_of b m ≡ answered m a
