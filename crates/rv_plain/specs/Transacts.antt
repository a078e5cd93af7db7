-- What one transaction of one core of the code's plain machine leaves behind.
use Rattle.std.specs.Prelude.{ℕ, ◌++◌, ◌≡◌, Option, Some}
use Rattle.image_load.specs.Contents.{Contents, started}
use Rattle.rv_code.specs.Machine.{program}
use Rattle.rv_plain.specs.Store.{Store}
use Rattle.rv_plain.specs.declared.plain.CoreState.{CoreState}
use Rattle.rv_plain.specs.declared.plain.Done.{Done}
use Rattle.tcc_base.specs.declared.access.CoreEnd.TheVariants.{Run}
use Rattle.rules_program.specs.Plain.{Attempt, steps, begun, end_of}
use Rattle.rules_program.specs.Ram.{flat}

abbrev pub steps_at : Contents → CoreState → Store → ℕ → Option Attempt
steps_at l c s k = steps l.settings.base (program (started l)) k (begun c.state (flat s.ram))

pub record Transacts (l : Contents) (old new : CoreState) (before after : Store) (n : ℕ) (d : Done) : Type 0 where
  pub attempt : Attempt
  pub runs : old.ended ≡ Run
  pub does : steps_at l old before n ≡ Some attempt
  pub ends : end_of attempt.outcome ≡ Some new.ended
  pub local : new.state ≡ attempt.local
  pub prints : new.console ≡ old.console ++ attempt.console
  pub ram : flat after.ram ≡ attempt.ram
  pub loads : d.loads ≡ attempt.loads
  pub stores : d.stores ≡ attempt.stores
  pub console : d.console ≡ attempt.console
