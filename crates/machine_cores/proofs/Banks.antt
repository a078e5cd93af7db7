-- A bank with one core changed.
use Rattle.std.proofs.Common.{◌≡◌, ℕ, ◌<◌, true, List, length, Option, Some, None}
use Rattle.std.proofs.Common.{refl, ap, sym, ◌∙◌, subst, arith, inl, inr, if◌then◌else◌}
use Rattle.std.specs.Prelude.{slice_get, slice_set, get_or, unwrap_or, ◌==◌, Result, Ok, Err, OnOk, OnErr}
use Rattle.std.proofs.lemmas.Bool.{cases_eq, ne_eqb}
use Rattle.std.proofs.lemmas.Bool.Decides.{nat_tests}
use Rattle.std.proofs.lemmas.Grind.{get_or-set_at}
use Rattle.std.proofs.lemmas.List.{get_or-set_other}
use Rattle.std.proofs.lemmas.Option.{slice_get_read}
use Rattle.image_load.specs.Contents.{started}
use Rattle.rv_code.specs.Machine.{program}
use Rattle.tcc_base.specs.Put.{put}
use Rattle.tcc_base.specs.Settings.{IsAllowed, Settings}
use Rattle.tcc_base.specs.declared.names.CoreId.{CoreId}
use Rattle.base_lemmas.proofs.Lemmas.{get-set, get-set_other, length-set}
use Rattle.rules_program.specs.Program.{Program}
use Rattle.rules_tcc.specs.State.{CoreState}
use Rattle.tcc_msg.specs.declared.outgoing.Outgoing.{Outgoing}
use Rattle.rules_tcc.specs.Attempt.{Out}
use Rattle.rules_tcc.specs.CoreExec.{core_exec}
use Rattle.core_node.specs.Answers.{Happened}
use Rattle.core_node.specs.View.{core_of, Stays}
use Rattle.core_node.specs.declared.delivering.CoreError.{CoreError}
use Rattle.core_node.specs.declared.state.Core.{Core}
use Rattle.machine_cores.specs.Acted.{Acted}
use Rattle.machine_cores.specs.Bank.{CoresData, cores_of, core_or, first_core}
use Rattle.machine_cores.specs.BankInside.{AreCores, IsBank, bank_of}
use Rattle.machine_cores.specs.Restored.{IsOwnCore}
use Rattle.machine_cores.specs.Uses.{AreCounted, exec_count, evict_count}
use Rattle.machine_cores.specs.declared.bank.CoreBank.TheInside.{Inside}

pub cores-at : (b : CoresData) (c : ℕ) (x : Core) → slice_get b.cores c ≡ Some x → cores_of b c ≡ core_of x
unfolding cores_of
cores-at b c x e = ap (core_or (first_core (started b.code) c)) e

pub cores-put : (b : CoresData) (c : ℕ) (x : Core) → c < length b.cores
    → cores_of (record { code = b.code; cores = slice_set b.cores c x }) ≡ put (cores_of b) c (core_of x)
unfolding cores_of
cores-put b c x h = λ i j. (here j) i
  where
    here : (j : ℕ) → core_or (first_core (started b.code) j) (slice_get (slice_set b.cores c x) j)
        ≡ (if j == c then core_of x else core_or (first_core (started b.code) j) (slice_get b.cores j))
    here j = elim (cases_eq j c) [
      | inl e ↦ (let same : (j == c) ≡ true = grind (arith, nat_tests) in
          rw same (rw e (ap (core_or (first_core (started b.code) c)) (get-set b.cores c x h))))
      | inr n ↦ rw (ne_eqb j c n) (ap (core_or (first_core (started b.code) j)) (get-set_other b.cores c j x n))
    ]

pub put-same : {A : Type 0} (f : ℕ → A) (c : ℕ) (x : A) → x ≡ f c → put f c x ≡ f
put-same f c x e = λ i j. (here j) i
  where
    here : (j : ℕ) → (if j == c then x else f j) ≡ f j
    here j = elim (cases_eq j c) [
      | inl q ↦ (let same : (j == c) ≡ true = grind (arith, nat_tests) in rw same (e ∙ ap f (sym q)))
      | inr n ↦ rw (ne_eqb j c n) refl
    ]

-- ---- one core of a bank

-- a whole bank is seen as these data, and this is its core of that number
pub record IsCoreOf (b : Inside) (now : CoresData) (c : ℕ) (x : Core) : Type 0 where
  pub whole : IsBank b
  pub seen : bank_of b ≡ now
  pub exists : c < b.code.settings.cores
  pub at : x ≡ get_or b.cores c x

-- so it is told at a step of the code
pub here : (a b : Inside) (now : CoresData) (c : ℕ) (x : Core) → a ≡ b → IsBank b → bank_of b ≡ now → c < now.code.settings.cores
    → x ≡ get_or a.cores c x → IsCoreOf a now c x
here a b now c x e w v l q = record {
  whole = subst IsBank (sym e) w;
  seen = ap bank_of e ∙ v;
  exists = subst (λ d. c < d.code.settings.cores) (sym (ap bank_of e ∙ v)) l;
  at = q;
}

is_there : (b : Inside) (now : CoresData) (c : ℕ) (x : Core) → IsCoreOf b now c x → slice_get b.cores c ≡ Some x
is_there b now c x h = slice_get_read b.cores b.code.settings.cores c x (sym h.whole.cores.count) h.exists h.at

pub own-config : (b : Inside) (now : CoresData) (c : ℕ) (x : Core) → IsCoreOf b now c x → x.config ≡ b.code.settings
own-config b now c x h = (h.whole.cores.each c x (is_there b now c x h)).0

pub config-here : (b : Inside) (now : CoresData) (c : ℕ) (x : Core) → IsCoreOf b now c x → x.config ≡ now.code.settings
config-here b now c x h = own-config b now c x h ∙ ap (λ d. d.code.settings) h.seen

pub id-here : (b : Inside) (now : CoresData) (c : ℕ) (x : Core) → IsCoreOf b now c x → x.id ≡ record { 0 = c }
id-here b now c x h = (h.whole.cores.each c x (is_there b now c x h)).1

pub state-here : (b : Inside) (now : CoresData) (c : ℕ) (x : Core) → IsCoreOf b now c x → core_of x ≡ cores_of now c
state-here b now c x h = sym (cores-at (bank_of b) c x (is_there b now c x h)) ∙ ap (λ d. cores_of d c) h.seen

pub data-here : (b : Inside) (now : CoresData) (c : ℕ) (x : Core) → IsCoreOf b now c x → slice_get now.cores c ≡ Some x
data-here b now c x h = subst (λ d. slice_get d.cores c ≡ Some x) h.seen (is_there b now c x h)

-- ---- a bank after one of its cores acted

abbrev pub with_core : (b : Inside) (c : ℕ) (x : Core) (execs evicts : List ℕ) → Inside
with_core b c x es vs = record { code = b.code; cores = slice_set b.cores c x; execs = es; evicts = vs }

pub cores-with : (s : Settings) (cs : List Core) (c : ℕ) (x : Core) → AreCores s cs → c < length cs → x.config ≡ s → x.id ≡ record { 0 = c }
    → AreCores s (slice_set cs c x)
cores-with s cs c x h l e n = record {
  count = length-set cs c x ∙ h.count;
  each = each;
}
  where
    each : (j : ℕ) (y : Core) → slice_get (slice_set cs c x) j ≡ Some y → (y.config ≡ s) × (y.id ≡ record { 0 = j })
    each j y q = elim (cases_eq j c) [
      | inl i ↦ (let same : x ≡ y = ap (λ o. unwrap_or o x) (sym (get-set cs c x l) ∙ ap (slice_get (slice_set cs c x)) (sym i) ∙ q) in
          (ap (λ z. z.config) (sym same) ∙ e, ap (λ z. z.id) (sym same) ∙ n ∙ ap (λ k. record { 0 = k }) (sym i)))
      | inr m ↦ h.each j y (sym (get-set_other cs c j x m) ∙ q)
    ]

-- one count renewed
counts-with : (f : ℕ → CoreState → ℕ) (counts : List ℕ) (n c : ℕ) (cores : ℕ → CoreState) (x : CoreState) → length counts ≡ n → c < n
    → ((j : ℕ) → j < n → get_or counts j 0 ≡ f j (cores j))
    → (j : ℕ) → j < n → get_or (slice_set counts c (f c x)) j 0 ≡ f j (put cores c x j)
counts-with f counts n c cores x len l h j k = elim (cases_eq j c) [
  | inl e ↦ (let same : (j == c) ≡ true = grind (arith, nat_tests) in
      get_or-set_at counts c j (f c x) 0 e (rw len l) ∙ ap (λ m. f m x) (sym e) ∙ ap (f j) (sym (rw same refl)))
  | inr m ↦ get_or-set_other counts c j (f c x) 0 m ∙ h j k ∙ ap (f j) (sym (rw (ne_eqb j c m) refl))
]

counted-with : (sh : Settings) (p : Program) (cores : ℕ → CoreState) (es vs : List ℕ) (c : ℕ) (x : CoreState) → AreCounted sh p cores es vs
    → c < sh.cores
    → AreCounted sh p (put cores c x) (slice_set es c (exec_count sh p c x)) (slice_set vs c (evict_count sh p x))
counted-with sh p cores es vs c x h l = record {
  exec_places = length-set es c (exec_count sh p c x) ∙ h.exec_places;
  evict_places = length-set vs c (evict_count sh p x) ∙ h.evict_places;
  can_execute = counts-with (exec_count sh p) es sh.cores c cores x h.exec_places l h.can_execute;
  can_evict = counts-with (λ j. evict_count sh p) vs sh.cores c cores x h.evict_places l h.can_evict;
}

-- another core of the machine in the place of one, with its counts renewed
pub whole-with : (b : Inside) (c : ℕ) (new x : Core) (es vs : List ℕ) → IsBank b → c < b.code.settings.cores → x ≡ new
    → new.config ≡ b.code.settings → new.id ≡ record { 0 = c }
    → es ≡ slice_set b.execs c (exec_count x.config (program (started b.code)) x.id.0 (core_of x))
    → vs ≡ slice_set b.evicts c (evict_count x.config (program (started b.code)) (core_of x))
    → IsBank (with_core b c new es vs)
whole-with b c new x es vs h l same config id renewed_execs renewed_evicts =
    let p : Program = program (started b.code) in
    let inside : c < length b.cores = rw h.cores.count l in
    let e : es ≡ slice_set b.execs c (exec_count b.code.settings p c (core_of new)) =
    renewed_execs ∙ ap (λ y. slice_set b.execs c (exec_count y.config p y.id.0 (core_of y))) same
    ∙ ap (λ s. slice_set b.execs c (exec_count s p new.id.0 (core_of new))) config
    ∙ ap (λ i. slice_set b.execs c (exec_count b.code.settings p i.0 (core_of new))) id in
    let v : vs ≡ slice_set b.evicts c (evict_count b.code.settings p (core_of new)) =
    renewed_evicts ∙ ap (λ y. slice_set b.evicts c (evict_count y.config p (core_of y))) same
    ∙ ap (λ s. slice_set b.evicts c (evict_count s p (core_of new))) config in
    record {
      allowed = h.allowed;
      cores = cores-with b.code.settings b.cores c new h.cores inside config id;
      counted = rw (cores-put (bank_of b) c new inside, e, v)
          (counted-with b.code.settings p (cores_of (bank_of b)) b.execs b.evicts c (core_of new) h.counted l);
    }

-- what the code knows after a core of the bank acted
pub record HasActed (b : Inside) (now : CoresData) (c : ℕ) (old new x : Core) (es vs : List ℕ) : Type 0 where
  pub before : IsCoreOf b now c old
  pub stays : Stays old new
  pub after : x ≡ get_or (slice_set b.cores c new) c x
  pub execs : es ≡ slice_set b.execs c (exec_count x.config (program (started b.code)) x.id.0 (core_of x))
  pub evicts : vs ≡ slice_set b.evicts c (evict_count x.config (program (started b.code)) (core_of x))

within : (b : Inside) (now : CoresData) (c : ℕ) (x : Core) → IsCoreOf b now c x → c < length b.cores
within b now c x h = rw h.whole.cores.count h.exists

-- the core that is read again is the one that acted
pub read_again : (b : Inside) (now : CoresData) (c : ℕ) (old new x : Core) → IsCoreOf b now c old
    → x ≡ get_or (slice_set b.cores c new) c x → x ≡ new
read_again b now c old new x h e = e ∙ get_or-set_at b.cores c c new x refl (within b now c old h)

pub acted-whole : (b : Inside) (now : CoresData) (c : ℕ) (old new x : Core) (es vs : List ℕ) → HasActed b now c old new x es vs
    → IsBank (with_core b c new es vs)
acted-whole b now c old new x es vs h =
    whole-with b c new x es vs h.before.whole h.before.exists (read_again b now c old new x h.before h.after)
    (h.stays.config ∙ own-config b now c old h.before) (h.stays.id ∙ id-here b now c old h.before) h.execs h.evicts

pub acted-config : (b : Inside) (now : CoresData) (c : ℕ) (old new x : Core) → IsCoreOf b now c old → Stays old new
    → x ≡ get_or (slice_set b.cores c new) c x → x.config ≡ b.code.settings
acted-config b now c old new x h t e =
    ap (λ y. y.config) (read_again b now c old new x h e) ∙ t.config ∙ own-config b now c old h

-- ---- a bank that was given another core in the place of one

module _ (a b : Inside) (now : CoresData) (i : CoreId) (new x : Core) (same : a ≡ b) (whole : IsBank b) (seen : bank_of b ≡ now)
    (own : IsOwnCore now.code.settings i new) (read : x ≡ get_or (slice_set a.cores i.0 new) i.0 x) where
  bank-here : IsBank a
  bank-here = subst IsBank (sym same) whole

  settings-here : now.code.settings ≡ a.code.settings
  settings-here = ap (λ d. d.code.settings) (sym (ap bank_of same ∙ seen))

  exists-here : i.0 < a.code.settings.cores
  exists-here = subst (λ s. i.0 < s.cores) settings-here own.exists

  given-again : x ≡ new
  given-again = read ∙ get_or-set_at a.cores i.0 i.0 new x refl (rw bank-here.cores.count exists-here)

  config-given : new.config ≡ a.code.settings
  config-given = own.config ∙ settings-here

  pub given-config : x.config ≡ a.code.settings
  given-config = ap (λ y. y.config) given-again ∙ config-given

  pub given-allowed : IsAllowed x.config
  given-allowed = subst IsAllowed (sym given-config) bank-here.allowed

  pub given-whole : (es vs : List ℕ) → es ≡ slice_set a.execs i.0 (exec_count x.config (program (started a.code)) x.id.0 (core_of x))
      → vs ≡ slice_set a.evicts i.0 (evict_count x.config (program (started a.code)) (core_of x))
      → IsBank (with_core a i.0 new es vs)
  given-whole es vs = whole-with a i.0 new x es vs bank-here exists-here given-again config-given own.id

-- ---- what the calls answer

-- a rule of the core's own settings and state is one of the bank's
pub same-rule : (rule : Settings → CoreState → Option Out) (b : Inside) (now : CoresData) (c : ℕ) (x : Core) → IsCoreOf b now c x
    → rule x.config (core_of x) ≡ rule now.code.settings (cores_of now c)
same-rule rule b now c x h =
    ap (λ s. rule s (core_of x)) (config-here b now c x h) ∙ ap (rule now.code.settings) (state-here b now c x h)

pub same-exec : (b : Inside) (now : CoresData) (c : ℕ) (x : Core) → IsCoreOf b now c x
    → core_exec x.config (program (started b.code)) x.id.0 (core_of x)
    ≡ core_exec now.code.settings (program (started now.code)) c (cores_of now c)
same-exec b now c x h =
    same-rule (λ s y. core_exec s (program (started b.code)) x.id.0 y) b now c x h
    ∙ ap (λ i. core_exec now.code.settings (program (started b.code)) i.0 (cores_of now c)) (id-here b now c x h)
    ∙ ap (λ d. core_exec now.code.settings (program (started d.code)) c (cores_of now c)) h.seen

pub cores-acted : (b : Inside) (now : CoresData) (c : ℕ) (old new : Core) (es vs : List ℕ) → IsCoreOf b now c old
    → cores_of (bank_of (with_core b c new es vs)) ≡ put (cores_of now) c (core_of new)
cores-acted b now c old new es vs h =
    cores-put (bank_of b) c new (within b now c old h) ∙ ap (λ d. put (cores_of d) c (core_of new)) h.seen

follows : (o : Option Out) (c : ℕ) (now after : CoresData) (new : Core) (before out : Outgoing)
    → cores_of after ≡ put (cores_of now) c (core_of new) → Happened o before new out → Acted o c now after before out
follows None c now after new before out e h = h
follows (Some o) c now after new before out e h = record { cores = e ∙ ap (put (cores_of now) c) h.core; sends = h.sends }

pub acted-does : {A : Type 0} (r : Result A CoreError) (o p : Option Out) (b : Inside) (now : CoresData) (c : ℕ) (old new : Core)
    (es vs : List ℕ) (before out : Outgoing) → IsCoreOf b now c old → o ≡ p → OnOk r (Happened o before new out)
    → OnOk r (Acted p c now (bank_of (with_core b c new es vs)) before out)
acted-does (Ok x) o p b now c old new es vs before out h e d =
    follows p c now (bank_of (with_core b c new es vs)) new before out (cores-acted b now c old new es vs h) (rw (sym e) d)
acted-does (Err x) o p b now c old new es vs before out h e d = record {}

pub acted-unchanged : {A : Type 0} (r : Result A CoreError) (b : Inside) (now : CoresData) (c : ℕ) (old new : Core) (es vs : List ℕ)
    → IsCoreOf b now c old → OnErr r (core_of new ≡ core_of old) → OnErr r (cores_of (bank_of (with_core b c new es vs)) ≡ cores_of now)
acted-unchanged (Ok x) b now c old new es vs h e = record {}
acted-unchanged (Err x) b now c old new es vs h e =
    cores-acted b now c old new es vs h ∙ put-same (cores_of now) c (core_of new) (e ∙ state-here b now c old h)
