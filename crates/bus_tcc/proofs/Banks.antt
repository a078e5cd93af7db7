-- A bank of cores, one of which is read or acts.
use Rattle.std.proofs.Common.{◌≡◌, ℕ, ◌+◌, ◌<◌, Bool, List, length, get_or, inl, inr, Option, Some, None, Result, Ok, Err, OnOk, OnErr}
use Rattle.std.proofs.Common.{ap, sym, ◌∙◌, subst, arith}
use Rattle.std.specs.Prelude.{IfOk, slice_get, slice_set}
use Rattle.std.proofs.lemmas.Bool.{cases_eq}
use Rattle.std.proofs.lemmas.Option.{slice_get_read}
use Rattle.tcc_base.specs.Put.{put}
use Rattle.tcc_base.specs.Settings.{Settings}
use Rattle.rules_tcc.specs.Attempt.{Out}
use Rattle.rules_tcc.specs.State.{CoreState}
use Rattle.tcc_msg.specs.declared.outgoing.Outgoing.{Outgoing}
use Rattle.core_node.specs.Answers.{Happened}
use Rattle.core_node.specs.AtHand.{Leaves}
use Rattle.core_node.specs.View.{core_of}
use Rattle.core_node.specs.declared.state.Core.{Core}
use Rattle.machine_cores.proofs.Lemmas.{cores-at, cores-put, cores-with, put-same}
use Rattle.machine_cores.specs.Bank.{CoresData, cores_of}
use Rattle.rules_bus.specs.Exec.{instruction}
use Rattle.image_load.specs.Contents.{started}
use Rattle.rv_code.specs.Machine.{program}
use Rattle.bus_tcc.specs.Bank.{Acted, Executed, ExecutedAt}
use Rattle.bus_tcc.specs.Machine.{word_in}
use Rattle.bus_tcc.specs.BankInside.{IsBank, bank_of}
use Rattle.bus_tcc.specs.declared.bank.BusBank.TheInside.{Inside}

-- a whole bank is seen as these data, and this is its core of that number
pub record IsCoreOf (b : Inside) (now : CoresData) (c : ℕ) (x : Core) : Type 0 where
  pub whole : IsBank b
  pub seen : bank_of b ≡ now
  pub exists : c < b.code.settings.cores
  pub at : x ≡ get_or b.cores c x

-- so it is told at a step of the code
pub here : (a b : Inside) (now : CoresData) (c : ℕ) (x : Core) → a ≡ b → IsBank b → bank_of b ≡ now → c < now.code.settings.cores
    → x ≡ get_or a.cores c x → IsCoreOf a now c x
here a b now c x e w v l q = record {
  whole = subst IsBank (sym e) w;
  seen = ap bank_of e ∙ v;
  exists = subst (λ d. c < d.code.settings.cores) (sym (ap bank_of e ∙ v)) l;
  at = q;
}

is_there : (b : Inside) (now : CoresData) (c : ℕ) (x : Core) → IsCoreOf b now c x → slice_get b.cores c ≡ Some x
is_there b now c x h = slice_get_read b.cores b.code.settings.cores c x (sym h.whole.cores.count) h.exists h.at

pub own-config : (b : Inside) (now : CoresData) (c : ℕ) (x : Core) → IsCoreOf b now c x → x.config ≡ b.code.settings
own-config b now c x h = (h.whole.cores.each c x (is_there b now c x h)).0

pub config-here : (b : Inside) (now : CoresData) (c : ℕ) (x : Core) → IsCoreOf b now c x → x.config ≡ now.code.settings
config-here b now c x h = own-config b now c x h ∙ ap (λ d. d.code.settings) h.seen

pub id-here : (b : Inside) (now : CoresData) (c : ℕ) (x : Core) → IsCoreOf b now c x → x.id ≡ record { 0 = c }
id-here b now c x h = (h.whole.cores.each c x (is_there b now c x h)).1

pub state-here : (b : Inside) (now : CoresData) (c : ℕ) (x : Core) → IsCoreOf b now c x → core_of x ≡ cores_of now c
state-here b now c x h = sym (cores-at (bank_of b) c x (is_there b now c x h)) ∙ ap (λ d. cores_of d c) h.seen

within : (b : Inside) (now : CoresData) (c : ℕ) (x : Core) → IsCoreOf b now c x → c < length b.cores
within b now c x h = rw h.whole.cores.count h.exists

abbrev pub with_core : (b : Inside) (c : ℕ) (x : Core) → Inside
with_core b c x = record { code = b.code; cores = slice_set b.cores c x }

-- a core that a loop over a bank's cores comes to
pub come-to : (a b : Inside) (now : CoresData) (cs : List Core) (c : ℕ) (x : Core) → a ≡ b → IsBank b → bank_of b ≡ now → cs ≡ a.cores
    → c < length cs → x ≡ get_or cs c x → IsCoreOf a now c x
come-to a b now cs c x e h v same l q =
    let count : length cs ≡ now.code.settings.cores =
    ap length same ∙ ap (λ i. length i.cores) e ∙ h.cores.count ∙ ap (λ d. d.code.settings.cores) v in
    here a b now c x e h v (rw (sym count) l) (subst (λ ys. x ≡ get_or ys c x) same q)

pub among : (b : Inside) (now : CoresData) (c : ℕ) (x : Core) → IsCoreOf b now c x → c < now.code.settings.cores
among b now c x h = subst (λ d. c < d.code.settings.cores) h.seen h.exists

pub one-more : (P : ℕ → Type 0) (n : ℕ) → ((j : ℕ) → j < n → P j) → P n → (j : ℕ) → j < n + 1 → P j
one-more P n h r j l = elim (cases_eq j n) [
  | inl e ↦ subst P (sym e) r
  | inr m ↦ h j (omega arith)
]

-- one of its cores acted
pub acted-whole : (b : Inside) (now : CoresData) (c : ℕ) (old new : Core) → IsCoreOf b now c old → new.config ≡ old.config
    → new.id ≡ old.id → IsBank (with_core b c new)
acted-whole b now c old new h config id = record {
  allowed = h.whole.allowed;
  cores = cores-with b.code.settings b.cores c new h.whole.cores (within b now c old h) (config ∙ own-config b now c old h)
      (id ∙ id-here b now c old h);
}

pub cores-acted : (b : Inside) (now : CoresData) (c : ℕ) (old new : Core) → IsCoreOf b now c old
    → cores_of (bank_of (with_core b c new)) ≡ put (cores_of now) c (core_of new)
cores-acted b now c old new h =
    cores-put (bank_of b) c new (within b now c old h) ∙ ap (λ d. put (cores_of d) c (core_of new)) h.seen

-- a rule of the core's own settings and state is one of the bank's
pub same-rule : {A : Type 0} → (rule : Settings → CoreState → A) (b : Inside) (now : CoresData) (c : ℕ) (x : Core) → IsCoreOf b now c x
    → rule x.config (core_of x) ≡ rule now.code.settings (cores_of now c)
same-rule rule b now c x h =
    ap (λ s. rule s (core_of x)) (config-here b now c x h) ∙ ap (rule now.code.settings) (state-here b now c x h)

left : (o : Option Out) (c : ℕ) (now after : CoresData) (s : CoreState) → cores_of after ≡ put (cores_of now) c s → Leaves o s
    → Acted o c now after
left None c now after s e h = h
left (Some o) c now after s e h = e ∙ ap (put (cores_of now) c) h

-- what an event of the core leaves is what one of the bank does
pub leaves-does : {A E : Type 0} → (r : Result A E) (o p : Option Out) (b : Inside) (now : CoresData) (c : ℕ) (old new : Core)
    → IsCoreOf b now c old → o ≡ p → OnOk r (Leaves o (core_of new)) → OnOk r (Acted p c now (bank_of (with_core b c new)))
leaves-does (Ok x) o p b now c old new h e d =
    left p c now (bank_of (with_core b c new)) (core_of new) (cores-acted b now c old new h) (rw (sym e) d)
leaves-does (Err x) o p b now c old new h e d = record {}

happened-leaves : {A E : Type 0} → (r : Result A E) (o : Option Out) (before out : Outgoing) (new : Core)
    → OnOk r (Happened o before new out) → OnOk r (Leaves o (core_of new))
happened-leaves (Ok x) None before out new h = h
happened-leaves (Ok x) (Some o) before out new h = h.core
happened-leaves (Err x) o before out new h = h

pub acted-does : {A E : Type 0} → (r : Result A E) (o p : Option Out) (b : Inside) (now : CoresData) (c : ℕ) (old new : Core)
    (before out : Outgoing) → IsCoreOf b now c old → o ≡ p → OnOk r (Happened o before new out)
    → OnOk r (Acted p c now (bank_of (with_core b c new)))
acted-does r o p b now c old new before out h e d = leaves-does r o p b now c old new h e (happened-leaves r o before out new d)

pub acted-unchanged : {A E : Type 0} → (r : Result A E) (b : Inside) (now : CoresData) (c : ℕ) (old new : Core)
    → IsCoreOf b now c old → OnErr r (core_of new ≡ core_of old) → OnErr r (cores_of (bank_of (with_core b c new)) ≡ cores_of now)
acted-unchanged (Ok x) b now c old new h e = record {}
acted-unchanged (Err x) b now c old new h e =
    cores-acted b now c old new h ∙ put-same (cores_of now) c (core_of new) (e ∙ state-here b now c old h)

-- an instruction of the core is one of the bank's
pub same-instruction : (b : Inside) (now : CoresData) (c : ℕ) (x : Core) (ws : List ℕ) → IsCoreOf b now c x
    → instruction x.config (program (started b.code)) (word_in ws) x.id.0 (core_of x)
    ≡ instruction now.code.settings (program (started now.code)) (word_in ws) c (cores_of now c)
same-instruction b now c x ws h =
    same-rule (λ s y. instruction s (program (started b.code)) (word_in ws) x.id.0 y) b now c x h
    ∙ ap (λ i. instruction now.code.settings (program (started b.code)) (word_in ws) i.0 (cores_of now c)) (id-here b now c x h)
    ∙ ap (λ d. instruction now.code.settings (program (started d.code)) (word_in ws) c (cores_of now c)) h.seen

ran : (a : Bool) (t : ℕ) (o : Option Out) (c : ℕ) (now after : CoresData) (s : CoreState) → cores_of after ≡ put (cores_of now) c s
    → Executed a t o s → ExecutedAt a t o c now after
ran a t None c now after s e h = h
ran a t (Some o) c now after s e h = (h.0, e ∙ ap (put (cores_of now) c) h.1)

pub executed-does : {E : Type 0} (r : Result Bool E) (t : ℕ) (o p : Option Out) (b : Inside) (now : CoresData) (c : ℕ) (old new : Core)
    → IsCoreOf b now c old → o ≡ p → IfOk r (λ a. Executed a t o (core_of new))
    → IfOk r (λ a. ExecutedAt a t p c now (bank_of (with_core b c new)))
executed-does (Ok a) t o p b now c old new h e d =
    ran a t p c now (bank_of (with_core b c new)) (core_of new) (cores-acted b now c old new h)
    (subst (λ q. Executed a t q (core_of new)) e d)
executed-does (Err x) t o p b now c old new h e d = record {}
