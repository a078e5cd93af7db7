-- Cores at rest, one after another.
use Rattle.std.proofs.Common.{◌≡◌, ℕ, ◌+◌, ◌<◌, List, length, ap, sym, ◌∙◌, subst, arith, inl, inr}
use Rattle.std.specs.Prelude.{get_or}
use Rattle.std.proofs.lemmas.Bool.{cases_eq}
use Rattle.core_node.specs.View.{core_of}
use Rattle.core_node.specs.declared.state.Core.{Core}
use Rattle.machine_cores.specs.Bank.{CoresData, cores_of}
use Rattle.machine_cores.specs.BankInside.{IsBank, bank_of}
use Rattle.machine_cores.specs.Rest.{IsAtRest}
use Rattle.machine_cores.specs.declared.bank.CoreBank.TheInside.{Inside}
use Rattle.machine_cores.proofs.Banks.{IsCoreOf, config-here, here, state-here}

-- a core that a loop over a bank's cores comes to
pub come-to : (a b : Inside) (now : CoresData) (cs : List Core) (c : ℕ) (x : Core) → a ≡ b → IsBank b → bank_of b ≡ now → cs ≡ a.cores
    → c < length cs → x ≡ get_or cs c x → IsCoreOf a now c x
come-to a b now cs c x e h v same l q =
    let count : length cs ≡ now.code.settings.cores =
    ap length same ∙ ap (λ i. length i.cores) e ∙ h.cores.count ∙ ap (λ d. d.code.settings.cores) v in
    here a b now c x e h v (rw (sym count) l) (subst (λ ys. x ≡ get_or ys c x) same q)

pub among : (b : Inside) (now : CoresData) (c : ℕ) (x : Core) → IsCoreOf b now c x → c < now.code.settings.cores
among b now c x h = subst (λ d. c < d.code.settings.cores) h.seen h.exists

abbrev pub CoreAtRest : CoresData → ℕ → Type 0
CoreAtRest now c = IsAtRest now.code.settings (cores_of now c)

pub rests-here : (b : Inside) (now : CoresData) (c : ℕ) (x : Core) → IsCoreOf b now c x → IsAtRest x.config (core_of x) → CoreAtRest now c
rests-here b now c x h r =
    subst (λ s. IsAtRest s (cores_of now c)) (config-here b now c x h) (subst (IsAtRest x.config) (state-here b now c x h) r)

pub rests-there : (b : Inside) (now : CoresData) (c : ℕ) (x : Core) → IsCoreOf b now c x → CoreAtRest now c → IsAtRest x.config (core_of x)
rests-there b now c x h r =
    subst (λ s. IsAtRest s (core_of x)) (sym (config-here b now c x h))
    (subst (IsAtRest now.code.settings) (sym (state-here b now c x h)) r)

pub one-more_rests : (now : CoresData) (n : ℕ) → ((j : ℕ) → j < n → CoreAtRest now j) → CoreAtRest now n
    → (j : ℕ) → j < n + 1 → CoreAtRest now j
one-more_rests now n h r j l = elim (cases_eq j n) [
  | inl e ↦ subst (CoreAtRest now) (sym e) r
  | inr m ↦ h j (omega arith)
]
