-- What a message waits for, against the rule that takes it.
use Rattle.std.specs.Prelude.{◌≡◌, false, Option, is_none, IfSome}
use Rattle.rules_tcc.specs.State.{DirState}
use Rattle.rules_tcc.specs.DirDeliver.{Answer}
use Rattle.directory.specs.declared.waits.Cause.{Cause}
use Rattle.directory.specs.Gives.{is_taken}
use Rattle.directory.specs.Stays.{Stays}

-- there is no cause exactly where the rule takes the message now; else the cause holds now, and as long as it does, in whatever
-- state, the message isn't taken
pub record Tells (rule : DirState → Answer) (now : DirState) (cause : Option Cause) : Type 0 where
  pub none : is_none cause ≡ is_taken (rule now)
  pub holds : IfSome cause (λ k. Stays k now now)
  pub stays : IfSome cause (λ k. (later : DirState) → Stays k now later → is_taken (rule later) ≡ false)
