-- A core whose end is kept has halted.
use Rattle.std.proofs.Common.{◌≡◌, ℕ, refl}
use Rattle.tcc_base.specs.declared.access.CoreEnd.TheVariants.{Halt, Trap}
use Rattle.rules_program.specs.Plain.{Outcome}
use Rattle.rules_tcc.specs.State.{Phase, Halted}
use Rattle.theorem_serial.specs.Commits.{end_after}

pub halted-halt : (q : Phase) (x : Outcome) (k : ℕ) → end_after q x ≡ Halt k → q ≡ Halted
halted-halt Halted x k e = refl
halted-halt q x k e = absurd (cc)

pub halted-trap : (q : Phase) (x : Outcome) (k : ℕ) → end_after q x ≡ Trap k → q ≡ Halted
halted-trap Halted x k e = refl
halted-trap q x k e = absurd (cc)
