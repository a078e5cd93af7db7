-- The order of the commits: the list of commits is what the plain machine gives for them in the order of their TIDs.
use Rattle.std.specs.Prelude.{ℕ, ◌≡◌, ◌<◌, List, [], map, Some}
use Rattle.tcc_base.specs.declared.access.Commit.{Commit as Noted}
use Rattle.tcc_base.specs.declared.access.CoreEnd.{CoreEnd}
use Rattle.tcc_base.specs.declared.access.CoreEnd.TheVariants.{Run, Halt, Trap}
use Rattle.rules_program.specs.Orders.{order_of_commit}
use Rattle.rules_program.specs.Plain.{Plain, PlainCore, Outcome, Halted as HaltedWith, Trapped as TrappedWith, serial}
use Rattle.rules_program.specs.Program.{Local, Program}
use Rattle.rules_maps.specs.Shape.{Shape}
use Rattle.rules_tcc.specs.Seen.{seen}
use Rattle.rules_tcc.specs.State.{CoreState, Phase, Halted, World}

-- the plain machine at its start: each core at its entry
unfoldable pub plain_start : (ℕ → Local) → (ram : ℕ → ℕ) → Plain
plain_start entries ram = record { ram = ram; cores = λ c. record { local = entries c; ended = Run; console = [] } }

-- The commits one after another on the plain machine give just these loads, stores and console bytes, and leave the machine m.
abbrev pub CommitsSerial : Shape → Program → (ℕ → Local) → (ram : ℕ → ℕ) → List Noted → Plain → Type 0
CommitsSerial sh p entries ram cs m = serial sh.base p 0 (map order_of_commit cs) (plain_start entries ram) ≡ Some (m, cs)

-- how a core stands after its last commit
abbrev pub end_after : Phase → Outcome → CoreEnd
end_after Halted (HaltedWith code) = Halt code
end_after Halted (TrappedWith code) = Trap code
end_after _ _ = Run

-- A core's checkpoint, and whether it has halted, are those of the plain machine.
pub record CoreSerial (s : CoreState) (m : PlainCore) : Type 0 where
  pub local : m.local ≡ s.saved
  pub ended : m.ended ≡ end_after s.phase s.ended

abbrev pub CoresSerial : Shape → World → Plain → Type 0
CoresSerial sh w m = (c : ℕ) → c < sh.cores → CoreSerial (w.cores c) (m.cores c)

-- What is seen of each word is the plain machine's memory.
abbrev pub SeenSerial : Shape → World → Plain → Type 0
SeenSerial sh w m = (x : ℕ) → seen sh w x ≡ m.ram x
