-- The program that counts suits, and its run is computed by the definitions alone.
use Rattle.rules_program.specs.Cores.{printed}
use Rattle.theorem_serial.specs.Counter.{two_cores, Inst, Gets, Puts, PutsBeside, at_pc, register, inst_need, counting, CountingSuits}
use Rattle.theorem_serial.specs.Counter.{GoesAlone, HasRead, IsViolated, CountsOn, NothingIsLeft}
use Rattle.theorem_serial.specs.Shown.{changed, shown}
use Rattle.rules_tcc.proofs.Lemmas.{computed}
use Rattle.theorem_serial.proofs.Names.{ℕ, arith, refl, word_of, NeedFits, NeedInMemory}

inst-fits : (i : Inst) (value : ℕ) → NeedFits (inst_need i value)
inst-fits Gets y = refl
inst-fits Puts y = (refl, omega arith)
inst-fits PutsBeside y = (refl, omega arith)
inst-fits _ y = tt

inst-inside : (i : Inst) (value : ℕ) → NeedInMemory two_cores (inst_need i value)
unfolding word_of
inst-inside Gets y = omega arith
inst-inside Puts y = omega arith
inst-inside PutsBeside y = omega arith
inst-inside _ y = tt

pub counting_suits : CountingSuits
unfolding counting
counting_suits = record {
  dirs = omega arith;
  fits = λ l. inst-fits (at_pc l.pc) (register l);
  inside = λ l. inst-inside (at_pc l.pc) (register l);
  small = λ w. omega arith;
}

pub goes_alone : GoesAlone
unfolding computed counting
goes_alone = refl

pub has_read : HasRead
unfolding computed counting
has_read = refl

pub is_violated : IsViolated
unfolding computed counting
is_violated = refl

pub counts_on : CountsOn
unfolding computed counting printed changed shown
counts_on = refl

pub nothing_is_left : NothingIsLeft
unfolding computed counting
nothing_is_left = refl
