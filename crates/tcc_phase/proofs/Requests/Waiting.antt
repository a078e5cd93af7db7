-- Which cores wait, by the least phase of those that haven't halted.
use Rattle.std.proofs.Common.{◌≡◌, ℕ, ◌<◌, ◌&&◌, false, List, [], Option, Some, None, refl, ap, sym}
use Rattle.std.specs.Prelude.{is_some}
use Rattle.tcc_base.specs.Settings.{Settings}
use Rattle.base_lemmas.proofs.Lemmas.{those-none, those-same}
use Rattle.rules_maps.specs.Words.{those}
use Rattle.rules_program.specs.Program.{Program}
use Rattle.rules_tcc.specs.State.{World}
use Rattle.rules_tcc.specs.Step.{step}
use Rattle.tcc_phase.specs.Requests.{Limits, is_above, is_waiting, request}

-- a core waits where it is above that phase
pub waits-above : (s : Settings) (p : Program) (w : World) (own asked : List ℕ) (least : ℕ) → Limits s w own (Some least) → (c : ℕ)
    → c < s.cores → is_above s p w least own asked c ≡ is_waiting s p w own asked c
unfolding is_above is_waiting
waits-above s p w own asked least h c l = ap (λ b. b && is_some (step s p w (request asked c))) (sym (h c l))

pub waits-none : (s : Settings) (p : Program) (w : World) (own asked : List ℕ) → Limits s w own None → (c : ℕ) → c < s.cores
    → is_waiting s p w own asked c ≡ false
unfolding is_waiting
waits-none s p w own asked h c l = ap (λ b. b && is_some (step s p w (request asked c))) (h c l)

pub waiting-above : (s : Settings) (p : Program) (w : World) (own asked : List ℕ) (least : ℕ) → Limits s w own (Some least)
    → those (is_above s p w least own asked) s.cores ≡ those (is_waiting s p w own asked) s.cores
waiting-above s p w own asked least h = those-same _ _ s.cores (waits-above s p w own asked least h)

pub waiting-none : (s : Settings) (p : Program) (w : World) (own asked : List ℕ) → Limits s w own None
    → [] ≡ those (is_waiting s p w own asked) s.cores
waiting-none s p w own asked h = sym (those-none _ s.cores (waits-none s p w own asked h))

pub none-of : (o : Option ℕ) → ((x : ℕ) → o ≡ Some x → ⊥) → o ≡ None
none-of None f = refl
none-of (Some x) f = absurd (f x refl)
