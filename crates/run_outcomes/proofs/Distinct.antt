-- States whose machines are the same are the same, so that no machine stands twice among states that differ.
use Rattle.std.proofs.Common.{ℕ, ◌≡◌, ◌<◌, ◌+◌, List, [], ◌∷◌, ◌++◌, Contains, sym, ◌∙◌, ap, subst, length, length-append}
use Rattle.std.proofs.Common.{map, slice_index, inl, inr, arith}
use Rattle.std.proofs.lemmas.Bool.{cases_lt}
use Rattle.std.proofs.lemmas.Grind.{common_steps}
use Rattle.std.proofs.lemmas.List.{ext_get_or, get_or-map, get_or_default}
use Rattle.std.proofs.lemmas.List.Elements.{All-get_or, Contains-get_or}
use Rattle.image_load.specs.Contents.{Contents, started}
use Rattle.run_outcomes.proofs.Normal.{same-changes}
use Rattle.run_outcomes.proofs.Reach.{state-kept}
use Rattle.run_outcomes.specs.Changes.{changed_ram, AreNormal}
use Rattle.run_outcomes.specs.Digests.{state_digest}
use Rattle.run_outcomes.specs.Explored.{AreFound, AreOnce, state_at, no_snapshot}
use Rattle.run_outcomes.specs.States.{machine_of, core_in, IsNumbered}
use Rattle.run_outcomes.specs.declared.states.Snapshot.{Snapshot}
use Rattle.image_load.specs.Start.{first_ram}
use Rattle.rv_plain.specs.Cores.{no_state}
use Rattle.rv_plain.specs.declared.plain.CoreState.{CoreState}
use Rattle.rules_program.specs.Plain.{PlainCore}

-- the code's core that stands for this one
abbrev code_core : PlainCore → CoreState
code_core c = record { state = c.local; ended = c.ended; console = c.console }

same-core : (l : Contents) (a b : Snapshot) (i : ℕ) → machine_of l a ≡ machine_of l b → core_in a i ≡ core_in b i
unfolding machine_of
same-core l a b i same = ap (λ m. code_core (m.cores i)) same

same-ram : (l : Contents) (a b : Snapshot) → AreNormal (first_ram (started l)) a.changes → AreNormal (first_ram (started l)) b.changes
    → machine_of l a ≡ machine_of l b → a.changes ≡ b.changes
unfolding machine_of changed_ram
same-ram l a b h k same = same-changes (first_ram (started l)) a.changes b.changes h k (λ j. ap (λ m. m.ram j) same)

pub same-state : (l : Contents) (a b : Snapshot) → length a.cores ≡ l.settings.cores → length b.cores ≡ l.settings.cores
    → AreNormal (first_ram (started l)) a.changes → AreNormal (first_ram (started l)) b.changes
    → machine_of l a ≡ machine_of l b → a ≡ b
same-state l a b sized sized' h k same =
    let cores : a.cores ≡ b.cores =
    ext_get_or no_state a.cores b.cores (sized ∙ sym sized') (λ i lt. same-core l a b i same) in
    let changes : a.changes ≡ b.changes = same-ram l a b h k same in
    λ i. record { cores = cores i; changes = changes i }

-- none of the states that were found is the machine of a state that isn't among them
pub no-machine : (l : Contents) (old : List Snapshot) (s : Snapshot) → AreFound l old → length s.cores ≡ l.settings.cores
    → AreNormal (first_ram (started l)) s.changes → (Contains old s → ⊥)
    → (k : ℕ) → k < length old → machine_of l (state_at old k) ≡ machine_of l s → ⊥
no-machine l old s found sized normal new k below e =
    let is : state_at old k ≡ s =
    same-state l (state_at old k) s (All-get_or (λ x. length x.cores ≡ l.settings.cores) old k no_snapshot below found.sized) sized
    (All-get_or (λ x. AreNormal (first_ram (started l)) x.changes) old k no_snapshot below found.normal) normal e in
    new (subst (Contains old) is (Contains-get_or old k no_snapshot below))

pub once-more : (l : Contents) (old : List Snapshot) (s : Snapshot) → AreFound l old → length s.cores ≡ l.settings.cores
    → AreNormal (first_ram (started l)) s.changes → (Contains old s → ⊥) → AreOnce l (old ++ s ∷ [])
once-more l old s found sized normal new i j lt lt' same =
    let len : length (old ++ s ∷ []) ≡ length old + 1 = length-append old (s ∷ []) in
    elim (cases_lt i (length old)) [
      | inl a ↦ elim (cases_lt j (length old)) [
        | inl b ↦ found.once i j a b (rw (state-kept old (s ∷ []) i a, state-kept old (s ∷ []) j b) at same)
        | inr b ↦
            let at : j ≡ length old = omega (arith, b, lt', len) in
            absurd (other i a (rw (state-kept old (s ∷ []) i a, last j at) at same))
      ]
      | inr a ↦
          let at : i ≡ length old = omega (arith, a, lt, len) in
          elim (cases_lt j (length old)) [
            | inl b ↦ absurd (other j b (sym (rw (last i at, state-kept old (s ∷ []) j b) at same)))
            | inr b ↦ omega (arith, at, b, lt', len)
          ]
    ]
  where
    last : (k : ℕ) → k ≡ length old → state_at (old ++ s ∷ []) k ≡ s
    last k e = grind (arith, common_steps)

    other : (k : ℕ) → k < length old → machine_of l (state_at old k) ≡ machine_of l s → ⊥
    other = no-machine l old s found sized normal new

pub numbered : (states : List Snapshot) (s : Snapshot) (k : ℕ) → k < length states → state_at states k ≡ s → IsNumbered states s k
numbered states s k lt is = (lt, get_or_default states k s no_snapshot lt ∙ is)

pub contained : (states : List Snapshot) (s : Snapshot) → (h : Contains states s) → state_at states h.0 ≡ s
contained states s h = get_or_default states h.0 no_snapshot s h.1 ∙ h.2

pub digest-at : (states : List Snapshot) (k : ℕ) → k < length states
    → slice_index (map state_digest states) k ≡ state_digest (state_at states k)
digest-at states k lt = get_or-map state_digest states k no_snapshot 0 lt
