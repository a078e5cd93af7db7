-- What a directory takes in every state.
use Rattle.std.proofs.Common.{◌≡◌, ℕ, Bool, true, false, refl, if◌then◌else◌}
use Rattle.std.specs.Prelude.{nat_lt, ◌==◌}
use Rattle.rules_tcc.specs.DirDeliver.{Answer, abort, acknowledgement, skip}
use Rattle.rules_tcc.specs.State.{DirState}
use Rattle.directory.specs.Gives.{is_taken}

pub if-always : (b : Bool) (x y : Answer) → is_taken x ≡ true → is_taken y ≡ true → is_taken (if b then x else y) ≡ true
if-always true x y e f = e
if-always false x y e f = f

pub skip-taken : (t : ℕ) (s : DirState) → is_taken (skip t s) ≡ true
unfolding skip
skip-taken t s = if-always (nat_lt t s.serving.serving) _ _ refl refl

pub abort-taken : (t : ℕ) (s : DirState) → is_taken (abort t s) ≡ true
unfolding abort
abort-taken t s = if-always (nat_lt t s.serving.serving) _ _ refl (if-always (s.serving.serving == t) _ _ refl refl)

pub acknowledgement-taken : (c l : ℕ) (keeps : Bool) (s : DirState) → is_taken (acknowledgement c l keeps s) ≡ true
unfolding acknowledgement
acknowledgement-taken c l keeps s = if-always (s.owed == 0) _ _ refl refl
