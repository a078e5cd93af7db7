-- The cores as they are made, and as they are counted, one after another.
use Rattle.std.proofs.Common.{◌≡◌, ℕ, ◌+◌, ◌<◌, ◌≤◌, List, [], ◌∷◌, ◌++◌, length, length-append}
use Rattle.std.proofs.Common.{Option, Some, None, refl, ap, sym, ◌∙◌, subst, arith, inl, inr}
use Rattle.std.specs.Prelude.{get_or, slice_get, slice_set, unwrap_or}
use Rattle.std.proofs.lemmas.Bool.{cases_eq, cases_lt}
use Rattle.std.proofs.lemmas.Grind.{get_or-set_at}
use Rattle.std.proofs.lemmas.List.{get_or-set_other}
use Rattle.std.proofs.lemmas.Option.{slice_get_read, slice_get_within}
use Rattle.image_load.specs.Contents.{Contents, started}
use Rattle.rv_code.specs.Machine.{program, start_local}
use Rattle.tcc_base.specs.Settings.{Settings}
use Rattle.base_lemmas.proofs.Lemmas.{get-front, length-set}
use Rattle.rules_tcc.specs.State.{core_start}
use Rattle.core_node.specs.View.{core_of}
use Rattle.core_node.specs.declared.state.Core.{Core}
use Rattle.machine_cores.specs.Bank.{cores_of, core_or, first_core}
use Rattle.machine_cores.specs.BankInside.{AreCores}
use Rattle.machine_cores.specs.Uses.{AreCounted, exec_count, evict_count}
use Rattle.machine_cores.proofs.Banks.{cores-at}
use Rattle.machine_cores.proofs.Flat.{get-right}

-- this is the core of that number as it begins
pub record IsFirst (k : Contents) (j : ℕ) (x : Core) : Type 0 where
  pub config : x.config ≡ k.settings
  pub id : x.id ≡ record { 0 = j }
  pub state : core_of x ≡ first_core (started k) j

pub is-first : (k : Contents) (j : ℕ) (x : Core) (s : Settings) (entry : ℕ) → s ≡ k.settings → entry ≡ (started k).entry j
    → x.config ≡ s → x.id ≡ record { 0 = j } → core_of x ≡ core_start (start_local s.cores j entry) → IsFirst k j x
unfolding started
is-first k j x s entry e f config id state = record {
  config = config ∙ e;
  id = id;
  state = state ∙ ap (λ t. core_start (start_local t.cores j entry)) e ∙ ap (λ a. core_start (start_local k.settings.cores j a)) f;
}

-- the first n cores as they begin
pub record AreFirst (k : Contents) (n : ℕ) (cs : List Core) : Type 0 where
  pub count : length cs ≡ n
  pub each : (j : ℕ) (x : Core) → slice_get cs j ≡ Some x → IsFirst k j x

pub one-more_core : (k : Contents) (n : ℕ) (cs : List Core) (x : Core) → AreFirst k n cs → IsFirst k n x → AreFirst k (n + 1) (cs ++ x ∷ [])
one-more_core k n cs x h f = record { count = length-append cs (x ∷ []) ∙ ap (λ m. m + 1) h.count; each = each }
  where
    each : (j : ℕ) (y : Core) → slice_get (cs ++ x ∷ []) j ≡ Some y → IsFirst k j y
    each j y q = elim (cases_lt j (length cs)) [
      | inl l ↦ h.each j y (sym (get-front cs (x ∷ []) j l) ∙ q)
      | inr m ↦ (let short : j < length (cs ++ x ∷ []) = slice_get_within (cs ++ x ∷ []) j y q in
          let last : j ≡ length cs + 0 = omega (arith, short, length-append cs (x ∷ [])) in
          let same : x ≡ y = ap (λ o. unwrap_or o x) (sym (get-right cs (x ∷ []) 0 j last) ∙ q) in
          let at : n ≡ j = omega (arith, last, h.count) in
          subst (λ z. IsFirst k j z) same (subst (λ i. IsFirst k i x) at f))
    ]

pub all-first : (k : Contents) (n : ℕ) (cs : List Core) → n ≡ k.settings.cores → AreFirst k n cs → AreCores k.settings cs
all-first k n cs e h = record { count = h.count ∙ e; each = λ j x q. ((h.each j x q).config, (h.each j x q).id) }

pub first-states : (k : Contents) (n : ℕ) (cs : List Core) → AreFirst k n cs
    → cores_of (record { code = k; cores = cs }) ≡ first_core (started k)
unfolding cores_of
first-states k n cs h = λ i j. (at j (slice_get cs j) refl) i
  where
    at : (j : ℕ) (o : Option Core) → slice_get cs j ≡ o → core_or (first_core (started k) j) o ≡ first_core (started k) j
    at j None q = refl
    at j (Some x) q = (h.each j x q).state

-- the counts of the first n cores
pub record AreCountedTo (k : Contents) (cs : List Core) (n : ℕ) (es vs : List ℕ) : Type 0 where
  pub exec_places : length es ≡ k.settings.cores
  pub evict_places : length vs ≡ k.settings.cores
  pub execs : (j : ℕ) → j < n → get_or es j 0 ≡ exec_count k.settings (program (started k)) j (cores_of (record { code = k; cores = cs }) j)
  pub evicts : (j : ℕ) → j < n → get_or vs j 0 ≡ evict_count k.settings (program (started k)) (cores_of (record { code = k; cores = cs }) j)

renewed : (counts : List ℕ) (n c x : ℕ) (f : ℕ → ℕ) → c < length counts → n ≡ c → x ≡ f c → ((j : ℕ) → j < n → get_or counts j 0 ≡ f j)
    → (j : ℕ) → j < n + 1 → get_or (slice_set counts c x) j 0 ≡ f j
renewed counts n c x f l e q h j k = elim (cases_eq j c) [
  | inl i ↦ get_or-set_at counts c j x 0 i l ∙ q ∙ ap f (sym i)
  | inr m ↦ get_or-set_other counts c j x 0 m ∙ h j (omega arith)
]

-- a core's counts, in the words of the bank
pub one-more_count : (k : Contents) (cs : List Core) (n : ℕ) (x : Core) (es vs : List ℕ) → AreCores k.settings cs → n < k.settings.cores
    → x ≡ get_or cs n x → AreCountedTo k cs n es vs
    → AreCountedTo k cs (n + 1) (slice_set es n (exec_count x.config (program (started k)) x.id.0 (core_of x)))
    (slice_set vs n (evict_count x.config (program (started k)) (core_of x)))
one-more_count k cs n x es vs a l e h =
    let there : slice_get cs n ≡ Some x = slice_get_read cs k.settings.cores n x (sym a.count) l e in
    let own = a.each n x there in
    let state : core_of x ≡ cores_of (record { code = k; cores = cs }) n = sym (cores-at (record { code = k; cores = cs }) n x there) in
    record {
      exec_places = length-set es n _ ∙ h.exec_places;
      evict_places = length-set vs n _ ∙ h.evict_places;
      execs = renewed es n n _ _ (rw h.exec_places l) refl
          (ap (λ s. exec_count s (program (started k)) x.id.0 (core_of x)) own.0
          ∙ ap (λ i. exec_count k.settings (program (started k)) i.0 (core_of x)) own.1
          ∙ ap (exec_count k.settings (program (started k)) n) state) h.execs;
      evicts = renewed vs n n _ _ (rw h.evict_places l) refl
          (ap (λ s. evict_count s (program (started k)) (core_of x)) own.0
          ∙ ap (evict_count k.settings (program (started k))) state) h.evicts;
    }

-- the same, as the loop has it
pub next-count : (k : Contents) (cs ds : List Core) (n : ℕ) (x : Core) (es vs es' vs' : List ℕ) → AreCores k.settings cs → ds ≡ cs
    → n < length ds → x ≡ get_or ds n x
    → es' ≡ slice_set es n (exec_count x.config (program (started k)) x.id.0 (core_of x))
    → vs' ≡ slice_set vs n (evict_count x.config (program (started k)) (core_of x))
    → AreCountedTo k cs n es vs → AreCountedTo k cs (n + 1) es' vs'
next-count k cs ds n x es vs es' vs' a same l e q r h =
    rw (q, r) (one-more_count k cs n x es vs a (rw (sym a.count, sym same) l) (subst (λ ys. x ≡ get_or ys n x) same e) h)

pub all-counted : (k : Contents) (cs ds : List Core) (n : ℕ) (es vs : List ℕ) → AreCores k.settings cs → ds ≡ cs → length ds ≤ n
    → AreCountedTo k cs n es vs
    → AreCounted k.settings (program (started k)) (cores_of (record { code = k; cores = cs })) es vs
all-counted k cs ds n es vs a same l h = record {
  exec_places = h.exec_places;
  evict_places = h.evict_places;
  can_execute = λ c i. h.execs c (omega (arith, ap length same, a.count));
  can_evict = λ c i. h.evicts c (omega (arith, ap length same, a.count));
}
