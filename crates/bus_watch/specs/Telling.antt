-- What is seen before an event, and what is told behind it.
use Rattle.std.specs.Prelude.{ℕ, ◌≡◌, ◌-◌, ◌++◌, Bool, true, false, List, [], length, map, slice_get, Option, Some, None}
use Rattle.tcc_base.specs.declared.access.Commit.{Commit}
use Rattle.tcc_base.specs.declared.names.LineAddr.{LineAddr}
use Rattle.tcc_base.specs.declared.names.Mask.{Mask}
use Rattle.tcc_base.specs.declared.names.Tid.{Tid}
use Rattle.tcc_base.specs.declared.names.WordAddr.{WordAddr}
use Rattle.rules_program.specs.Program.{Program}
use Rattle.rules_maps.specs.CacheLook.{Look, Hit}
use Rattle.rules_maps.specs.Shape.{Shape}
use Rattle.rules_tcc.specs.State.{CoreState, Phase}
use Rattle.commit_engine.specs.Engine.{phase_of}
use Rattle.rules_bus.specs.Exec.{word_read}
use Rattle.rules_bus.specs.State.{Bus}
use Rattle.bus_tcc.specs.Machine.{BusMachine, bus_settings_of, bus_world_of}
use Rattle.watch.specs.Happened.{commit_fact, phase_fact}
use Rattle.watch_core.specs.Seen.{Saw}
use Rattle.bus_watch.specs.Facts.{BusFact, Common, SentLine, Holder}
use Rattle.bus_watch.specs.Happened.{comes_from_memory, holder, holder_fact, lines_out}
use Rattle.bus_watch.specs.Plain.{holder_of}
use Rattle.bus_watch.specs.declared.behind.Before.{Before}
use Rattle.bus_watch.specs.declared.executing.SeenExec.{SeenExec}

-- a core's phase and who had the bus
pub record SawBefore (before : Before) (s : CoreState) (h : Holder) : Type 0 where
  pub phase : phase_of before.phase ≡ s.phase
  pub holder : holder_of before.holder ≡ h

-- a core that executes was seen, and whether the word that its instruction reads comes from memory
pub record SawExec (seen : SeenExec) (sh : Shape) (p : Program) (s : CoreState) : Type 0 where
  pub core : Saw seen.seen p s
  pub from_memory : seen.from_memory ≡ comes_from_memory s (word_read sh.base (p.need s.local))

-- a cache answers with a value
abbrev pub hits : Look → Bool
hits (Hit x) = true
hits _ = false

abbrev pub number_of : WordAddr → ℕ
number_of w = w.0

-- a line and some of its words, as numbers
abbrev pub words_of_line : LineAddr × Mask → ℕ × ℕ
words_of_line h = (h.0.0, h.1.0)

-- the last of some commits
abbrev pub last_commit : List Commit → Option Commit
last_commit cs = slice_get cs (length cs - 1)

-- where a step told of a commit, it is the last one
abbrev pub commit_told : Option Tid → List Commit → List BusFact
commit_told None cs = []
commit_told (Some t) cs = map Common (commit_fact (last_commit cs))

-- and what it sent is on the bus
abbrev pub sent_told : Shape → Option Tid → Bus → List BusFact
sent_told sh None b = []
sent_told sh (Some t) b = map SentLine (lines_out sh b)

-- what is told behind the event itself, of a core that was in this phase, where the bus was held like this
abbrev pub behind_told : BusMachine → (core : ℕ) → Phase → Holder → Option Tid → List BusFact
behind_told n c p h t =
    commit_told t n.commits
    ++ (map Common (phase_fact c p ((bus_world_of n).cores c).phase)
    ++ (holder_fact h (holder (bus_world_of n)) ++ sent_told (bus_settings_of n) t (bus_world_of n).bus))
