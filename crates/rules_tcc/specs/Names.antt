-- Short names for what schedules and their reports are made of.
use Rattle.std.specs.Prelude.{ℕ, List}
use Rattle.tcc_base.specs.declared.access.Commit.{Commit as Noted}
use Rattle.tcc_base.specs.declared.access.Load.{Load}
use Rattle.tcc_base.specs.declared.access.Size.TheVariants.{Byte, Half, Word}
use Rattle.tcc_base.specs.declared.access.Stored.{Stored}
use Rattle.rules_program.specs.Plain.{Outcome, load_of, store_of}
use Rattle.rules_maps.specs.Nodes.{Node, Core, Dir}
use Rattle.rules_tcc.specs.State.{Phase}
use Rattle.rules_tcc.specs.Needs.{at}
use Rattle.rules_tcc.specs.Told.{ToldCore}

abbrev pub c2 : Node
c2 = Core 2

abbrev pub d2 : Node
d2 = Dir 2

abbrev pub noted_commit : (tid core n : ℕ) → List Load → List Stored → (console : List ℕ) → Noted
noted_commit t c n loads stores console = record {
  tid = record { 0 = t };
  core = record { 0 = c };
  n = n;
  loads = loads;
  stores = stores;
  console = console;
}

abbrev pub stands : (pc : ℕ) → (regs : List ℕ) → Phase → Outcome → (reads : List ℕ) → ToldCore
stands pc regs phase ended reads = record { pc = pc; regs = regs; phase = phase; ended = ended; reads = reads }

-- a word, or byte k of it, that was loaded or stored
abbrev pub got : (word value : ℕ) → Load
got w x = load_of (at w 0) Word x

abbrev pub got_byte : (word k value : ℕ) → Load
got_byte w k x = load_of (at w k) Byte x

abbrev pub wrote : (word value : ℕ) → Stored
wrote w x = store_of (at w 0) Word x

abbrev pub wrote_byte : (word k value : ℕ) → Stored
wrote_byte w k x = store_of (at w k) Byte x

abbrev pub wrote_half : (word k value : ℕ) → Stored
wrote_half w k x = store_of (at w k) Half x
