-- The instruction at an address, and how it tells what the program does.
use Rattle.std.specs.Prelude.{ℕ, ◌≡◌, ◌+◌, ◌*◌, List, slice_index_or, Option, Some, None, IfSome}
use Rattle.image_load.specs.Contents.{Contents, started}
use Rattle.image_load.specs.Start.{Start}
use Rattle.rv_code.specs.Machine.{program, in_ram}
use Rattle.rv_decode.specs.Decoding.{decoded}
use Rattle.rv_decode.specs.declared.instruction.Inst.{Inst}
use Rattle.rv_exec.specs.Effects.{planned, finished}
use Rattle.rv_exec.specs.Running.{bounded}
use Rattle.rules_program.specs.Program.{Local, Traps}

-- a core at this state executes this instruction: the program needs what the instruction plans, bounded by RAM, and leaves what
-- it finishes with
pub record Runs (s : Start) (l : Local) (inst : Inst) : Type 0 where
  pub need : (program s).need l ≡ bounded (in_ram s.settings) (planned inst l)
  pub after : (loaded : Option ℕ) → (program s).after l loaded ≡ finished inst l loaded

-- fetching at this state is a trap
abbrev pub FailsToFetch : Start → Local → (trap : ℕ) → Type 0
FailsToFetch s l trap = (program s).need l ≡ Traps trap

-- the word that was fetched is this instruction's
abbrev pub Finds : Option ℕ → Inst → Type 0
Finds None inst = ⊥
Finds (Some w) inst = decoded w ≡ Some inst

-- each instruction that is kept is that of the word of its number
abbrev pub AreFound : Contents → List (Option Inst) → Type 0
AreFound c insts =
    (w : ℕ) → IfSome (slice_index_or insts w None) (Finds ((started c).fetch (c.settings.base + 4 * w)))
