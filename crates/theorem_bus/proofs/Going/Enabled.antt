-- An instruction of a core in bounds: it can be executed where the core by itself executes, and a core that is alone doesn't wait for that.
use Rattle.std.specs.Prelude.{ℕ, ◌≡◌, true, Option, Some, None, is_some, IfSome}
use Rattle.std.proofs.Common.{ap, ◌∙◌}
use Rattle.rules_maps.specs.Shape.{Shape}
use Rattle.rules_program.specs.Program.{Program}
use Rattle.rules_tcc.specs.Attempt.{Out, is_solo}
use Rattle.rules_tcc.specs.CoreExec.{core_exec}
use Rattle.rules_tcc.specs.State.{CoreState, Solo}
use Rattle.theorem_serial.specs.OneCore.{executes}
use Rattle.rules_bus.specs.Exec.{instruction}
use Rattle.theorem_bus.specs.Bounds.{BusCoreInBounds}
use Rattle.theorem_bus.proofs.Going.Live.{any_line, instruction-enabled, need-any}
use Rattle.theorem_bus.proofs.OneCore.Fine.{Fine, Ways, Stays, Closes, Overflows, Left, instruction-left}
use Rattle.theorem_bus.proofs.OneCore.Instruction.{Executes}

fine : (sh : Shape) (n : ℕ) (s : CoreState) → BusCoreInBounds sh n s → Fine sh any_line n s
fine sh n s k = record {
  awaited = k.awaited;
  clean = k.clean;
  sound = k.sound;
  attempt = k.attempt;
  frames = λ l h. tt;
  spilled = λ x h. tt;
}

-- it can be executed exactly where the core by itself executes
pub instruction-some : (sh : Shape) (n : ℕ) (p : Program) (ram : ℕ → ℕ) (c : ℕ) (s : CoreState) → BusCoreInBounds sh n s → Executes p s
    → executes s.phase ≡ true → is_some (instruction sh p ram c s) ≡ is_some (core_exec sh p c s)
instruction-some sh n p ram c s k x e = instruction-enabled sh p ram c s k.awaited e

-- it leaves a core alone that is so
pub alone-stays : (sh : Shape) (n : ℕ) (p : Program) (ram : ℕ → ℕ) (c t : ℕ) (s : CoreState) → BusCoreInBounds sh n s → Executes p s
    → s.phase ≡ Solo t → IfSome (instruction sh p ram c s) (λ o. o.core.phase ≡ Solo t)
alone-stays sh n p ram c t s k x e =
    go (instruction sh p ram c s)
    (instruction-left sh any_line n p ram c s (need-any sh.base (p.need s.local)) (fine sh n s k) x)
  where
    by : (o : Out) → Ways s o.core → o.core.phase ≡ Solo t
    by o (Stays q) = q ∙ e
    by o (Closes r q) = absurd (cc)
    by o (Overflows m q) = absurd (let a : is_solo s.phase ≡ true = ap is_solo e in cc)

    go : (y : Option Out) → IfSome y (Left sh any_line n s) → IfSome y (λ o. o.core.phase ≡ Solo t)
    go None l = tt
    go (Some o) l = by o l.ways
