-- What stays in bounds and in order in every state that a run reaches: what code is to know before it executes, commits or takes.
use Rattle.std.specs.Prelude.{ℕ, ◌+◌, ◌≡◌, ◌<◌, ◌≤◌, Bool, true, false, List, length, Contains, Option, None, IfSome, is_some}
use Rattle.image_load.specs.Start.{Start}
use Rattle.tcc_base.specs.Settings.{IsAllowed}
use Rattle.tcc_base.specs.declared.access.Commit.{Commit as Noted}
use Rattle.rules_maps.specs.Shape.{Shape}
use Rattle.rules_maps.specs.Words.{any_below}
use Rattle.rules_program.specs.Program.{Local, Program}
use Rattle.rules_tcc.specs.State.{CoreState, Phase, Running, AwaitTid, Solo, Halted}
use Rattle.theorem_attempt.specs.Sound.{SoundCore}
use Rattle.theorem_serial.specs.InMemory.{WordInMemory, StaysInMemory}
use Rattle.theorem_bounds.specs.Bounds.{AttemptCounted, CommitCounted, CacheInMemory}
use Rattle.rules_bus.specs.State.{Alone, Packet, BusEvent, bus_start}
use Rattle.rules_bus.specs.Step.{BusHistory, bus_run}
use Rattle.theorem_bus.specs.Given.{AfterBusRun}

-- the phases that occur
abbrev pub is_of_bus : Phase → Bool
is_of_bus Running = true
is_of_bus AwaitTid = true
is_of_bus (Solo t) = true
is_of_bus Halted = true
is_of_bus _ = false

-- what one core holds, after so many events
pub record BusCoreInBounds (sh : Shape) (events : ℕ) (s : CoreState) : Type 0 where
  pub phase : is_of_bus s.phase ≡ true
  -- It awaits no line, and no word in its cache is dirty.
  pub awaited : s.awaited ≡ None
  pub clean : (x : ℕ) → s.cache.dirty x ≡ None
  -- Its cache is consistent, only a core that is alone has spilled words, and a core without an attempt has no marks.
  pub sound : SoundCore sh s
  -- Its attempt has at most as many instructions as there were events.
  pub attempt : AttemptCounted events s
  -- Its cache and the words that it has spilled are of memory.
  pub cache : CacheInMemory sh s.cache
  pub spilled : (x : ℕ) → is_some (s.spilled x) ≡ true → WordInMemory sh x

-- a packet of words of memory, which a core is still to take
pub record PacketInBounds (sh : Shape) (words : ℕ → Option ℕ) (left : ℕ → Bool) : Type 0 where
  pub some : any_below left sh.cores ≡ true
  pub cores : (c : ℕ) → left c ≡ true → c < sh.cores
  pub inside : (x : ℕ) → is_some (words x) ≡ true → WordInMemory sh x

-- All of it, after so many events.
pub record IsBusBounded (sh : Shape) (events : ℕ) (h : BusHistory) : Type 0 where
  pub cores : (c : ℕ) → c < sh.cores → BusCoreInBounds sh events (h.world.cores c)
  -- The core that has the bus is alone under the next TID, and a core that is alone has the bus.
  pub alone : (c : ℕ) → h.world.bus ≡ Alone c → (c < sh.cores) × ((h.world.cores c).phase ≡ Solo h.world.next)
  pub solo : (c t : ℕ) → c < sh.cores → (h.world.cores c).phase ≡ Solo t → (h.world.bus ≡ Alone c) × (t ≡ h.world.next)
  pub packet : (f : ℕ → Option ℕ) (left : ℕ → Bool) → h.world.bus ≡ Packet f left → PacketInBounds sh f left
  -- The next TID is the number of the next commit, from 1.
  pub next : h.world.next ≡ length h.commits + 1
  -- There are at most as many commits as events, each of at most as many instructions.
  pub number : length h.commits ≤ events
  pub counted : (x : Noted) → Contains h.commits x → CommitCounted events x

-- So it is after every run of a program whose accesses lie in memory.
abbrev pub BusRunsAreBounded : Type 0
BusRunsAreBounded =
    (sh : Shape) (p : Program) (entries : ℕ → Local) (ram : ℕ → ℕ) (es : List BusEvent) → StaysInMemory sh p
    → IfSome (bus_run sh p (bus_start entries ram) es) (IsBusBounded sh (length es))

-- So it is of the RISC-V programs that the machine runs.
abbrev pub RiscvBusRunsAreBounded : Type 0
RiscvBusRunsAreBounded =
    (s : Start) (es : List BusEvent) → IsAllowed s.settings → AfterBusRun s es (IsBusBounded s.settings (length es))
