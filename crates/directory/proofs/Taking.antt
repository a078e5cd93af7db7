-- Which messages are taken, by the rules' tests.
use Rattle.std.proofs.Common.{◌≡◌, ℕ, Bool, true, false, not, ◌==◌, nat_lt, refl, ap, sym, ◌∙◌}
use Rattle.rules_tcc.specs.State.{DirState}
use Rattle.rules_tcc.specs.DirDeliver.{ask_owner, skip, abort, acknowledgement}
use Rattle.directory.specs.Gives.{is_taken}
use Rattle.directory.proofs.RuleCases.{ask-asked, ask-first, skip-lower, skip-other, abort-lower, abort-served, abort-higher}
use Rattle.directory.proofs.RuleCases.{acknowledgement-none, acknowledgement-owed}

pub ask-taken : (o l : ℕ) (s : DirState) → not (s.lines.asked l) ≡ is_taken (ask_owner o l s)
ask-taken o l s = by (s.lines.asked l) refl
  where
    by : (b : Bool) → s.lines.asked l ≡ b → not (s.lines.asked l) ≡ is_taken (ask_owner o l s)
    by true f = ap not f ∙ sym (ap is_taken (ask-asked o l s f))
    by false f = ap not f ∙ sym (ap is_taken (ask-first o l s f))

-- these never wait
pub skip-taken : (t : ℕ) (s : DirState) → true ≡ is_taken (skip t s)
skip-taken t s = by (nat_lt t s.serving.serving) refl
  where
    by : (b : Bool) → nat_lt t s.serving.serving ≡ b → true ≡ is_taken (skip t s)
    by true f = sym (ap is_taken (skip-lower t s f))
    by false f = sym (ap is_taken (skip-other t s f))

pub abort-taken : (t : ℕ) (s : DirState) → true ≡ is_taken (abort t s)
abort-taken t s = by (nat_lt t s.serving.serving) refl (s.serving.serving == t) refl
  where
    by : (b : Bool) → nat_lt t s.serving.serving ≡ b → (d : Bool) → (s.serving.serving == t) ≡ d → true ≡ is_taken (abort t s)
    by true f d g = sym (ap is_taken (abort-lower t s f))
    by false f true g = sym (ap is_taken (abort-served t s f g))
    by false f false g = sym (ap is_taken (abort-higher t s f g))

pub acknowledgement-taken : (c l : ℕ) (keeps : Bool) (s : DirState) → true ≡ is_taken (acknowledgement c l keeps s)
acknowledgement-taken c l keeps s = by (s.owed == 0) refl
  where
    by : (b : Bool) → (s.owed == 0) ≡ b → true ≡ is_taken (acknowledgement c l keeps s)
    by true f = sym (ap is_taken (acknowledgement-none c l keeps s f))
    by false f = sym (ap is_taken (acknowledgement-owed c l keeps s f))
