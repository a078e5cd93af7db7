-- Changes in their normal form: the memory that they make tells them apart.
use Rattle.std.proofs.Common.{ℕ, ◌≡◌, ◌+◌, ◌-◌, ◌<◌, ◌≤◌, List, [], ◌∷◌, ◌++◌, None, All, refl, sym, ◌∙◌, ap, subst}
use Rattle.std.proofs.Common.{zero, suc, add-one, length, slice_index, inl, inr, arith}
use Rattle.std.proofs.lemmas.Bool.{ne_eqb, eq-eqb, cases_lt}
use Rattle.std.proofs.lemmas.List.Elements.{All-head, All-tail, All-weaker, All-push, All-nil}
use Rattle.std.proofs.lemmas.List.Sorted.{IsNonDecreasingBy-from_sort}
use Rattle.std.specs.List.Sorted.{IsSorted}
use Rattle.std.specs.Ordering.{nat_cmp}
use Rattle.rv_plain.specs.Buffered.{seen}
use Rattle.run_outcomes.specs.Changes.{value_in, AreNormalFrom, AreNormal}

-- a word before the first has no value
before-none : (ram : ℕ → ℕ) (word j : ℕ) (changes : List (ℕ × ℕ)) → AreNormalFrom ram word changes → j < word
    → value_in changes j ≡ None
unfolding value_in AreNormalFrom
before-none ram word j [] h lt = refl
before-none ram word j (c ∷ cs) h lt =
    let other : j ≡ c.0 → ⊥ = λ e. absurd (omega (arith, e, lt, h.0)) in
    let early : j < c.0 + 1 = omega (arith, lt, h.0) in
    rw (ne_eqb j c.0 other) (before-none ram (c.0 + 1) j cs h.2 early)

seen-first : (ram : ℕ → ℕ) (c : ℕ × ℕ) (cs : List (ℕ × ℕ)) → seen ram (value_in (c ∷ cs)) c.0 ≡ c.1
unfolding seen value_in
seen-first ram c cs = rw (eq-eqb c.0 c.0 refl) refl

seen-other : (ram : ℕ → ℕ) (c : ℕ × ℕ) (cs : List (ℕ × ℕ)) (j : ℕ) → (j ≡ c.0 → ⊥)
    → seen ram (value_in (c ∷ cs)) j ≡ seen ram (value_in cs) j
unfolding seen value_in
seen-other ram c cs j ne = rw (ne_eqb j c.0 ne) refl

seen-before : (ram : ℕ → ℕ) (word j : ℕ) (changes : List (ℕ × ℕ)) → AreNormalFrom ram word changes → j < word
    → seen ram (value_in changes) j ≡ ram j
unfolding seen
seen-before ram word j changes h lt = rw (before-none ram word j changes h lt) refl

from-first : (ram : ℕ → ℕ) (word : ℕ) (c : ℕ × ℕ) (cs : List (ℕ × ℕ)) → AreNormalFrom ram word (c ∷ cs)
    → (word ≤ c.0) × (c.1 ≡ ram c.0 → ⊥) × AreNormalFrom ram (c.0 + 1) cs
unfolding AreNormalFrom
from-first ram word c cs h = h

from-later : (ram : ℕ → ℕ) (word later : ℕ) (c : ℕ × ℕ) (cs : List (ℕ × ℕ)) → later ≤ c.0 → AreNormalFrom ram word (c ∷ cs)
    → AreNormalFrom ram later (c ∷ cs)
unfolding AreNormalFrom
from-later ram word later c cs le h = (le, h.1, h.2)

-- memory is as these changes make it, and a change that comes before them would show
first-shows : (ram : ℕ → ℕ) (word word' : ℕ) (c : ℕ × ℕ) (cs ds : List (ℕ × ℕ)) → AreNormalFrom ram word (c ∷ cs)
    → AreNormalFrom ram word' ds → c.0 < word'
    → ((j : ℕ) → seen ram (value_in (c ∷ cs)) j ≡ seen ram (value_in ds) j) → ⊥
first-shows ram word word' c cs ds h k lt same =
    (from-first ram word c cs h).1 (sym (seen-first ram c cs) ∙ same c.0 ∙ seen-before ram word' c.0 ds k lt)

-- the changes behind a first one that two lists share
rest-same : (ram : ℕ → ℕ) (c d : ℕ × ℕ) (cs ds : List (ℕ × ℕ)) → c.0 ≡ d.0 → AreNormalFrom ram (c.0 + 1) cs
    → AreNormalFrom ram (d.0 + 1) ds → ((j : ℕ) → seen ram (value_in (c ∷ cs)) j ≡ seen ram (value_in (d ∷ ds)) j)
    → (j : ℕ) → seen ram (value_in cs) j ≡ seen ram (value_in ds) j
rest-same ram c d cs ds e h k same j =
    elim (cases_lt j (c.0 + 1)) [
      | inl lt ↦
          let lt' : j < d.0 + 1 = omega (arith, lt, e) in
          seen-before ram (c.0 + 1) j cs h lt ∙ sym (seen-before ram (d.0 + 1) j ds k lt')
      | inr ge ↦
          let ne : j ≡ c.0 → ⊥ = λ q. absurd (omega (arith, q, ge)) in
          let ne' : j ≡ d.0 → ⊥ = λ q. absurd (omega (arith, q, ge, e)) in
          sym (seen-other ram c cs j ne) ∙ same j ∙ seen-other ram d ds j ne'
    ]

from-nothing : (ram : ℕ → ℕ) (word : ℕ) → AreNormalFrom ram word []
unfolding AreNormalFrom
from-nothing ram word = tt

-- two lists of changes in their normal form that make the same memory are the same
normal-same : (ram : ℕ → ℕ) (word word' : ℕ) (a b : List (ℕ × ℕ)) → AreNormalFrom ram word a → AreNormalFrom ram word' b
    → ((j : ℕ) → seen ram (value_in a) j ≡ seen ram (value_in b) j) → a ≡ b
normal-same ram word word' [] [] h k same = refl
normal-same ram word word' (c ∷ cs) [] h k same =
    absurd (first-shows ram word (c.0 + 1) c cs [] h (from-nothing ram (c.0 + 1)) (omega arith) same)
normal-same ram word word' [] (d ∷ ds) h k same =
    absurd (first-shows ram word' (d.0 + 1) d ds [] k (from-nothing ram (d.0 + 1)) (omega arith) (λ j. sym (same j)))
normal-same ram word word' (c ∷ cs) (d ∷ ds) h k same =
    elim (cases_lt c.0 d.0) [
      | inl lt ↦ absurd (first-shows ram word d.0 c cs (d ∷ ds) h (from-later ram word' d.0 d ds (omega arith) k) lt same)
      | inr ge ↦ elim (cases_lt d.0 c.0) [
        | inl lt ↦ absurd
            (first-shows ram word' c.0 d ds (c ∷ cs) k (from-later ram word c.0 c cs (omega arith) h) lt (λ j. sym (same j)))
        | inr le ↦
            let e : c.0 ≡ d.0 = omega (arith, ge, le) in
            let hs = (from-first ram word c cs h).2 in
            let ks = (from-first ram word' d ds k).2 in
            let v : c.1 ≡ d.1 =
            sym (seen-first ram c cs) ∙ same c.0 ∙ ap (seen ram (value_in (d ∷ ds))) e ∙ seen-first ram d ds in
            let first : c ≡ d = λ i. (e i, v i) in
            let rest : cs ≡ ds =
            normal-same ram (c.0 + 1) (d.0 + 1) cs ds hs ks (rest-same ram c d cs ds e hs ks same) in
            λ i. first i ∷ rest i
      ]
    ]

pub same-changes : (ram : ℕ → ℕ) (a b : List (ℕ × ℕ)) → AreNormal ram a → AreNormal ram b
    → ((j : ℕ) → seen ram (value_in a) j ≡ seen ram (value_in b) j) → a ≡ b
same-changes ram a b h k same = normal-same ram 0 0 a b h k same

pub normal-nothing : (ram : ℕ → ℕ) → AreNormal ram []
unfolding AreNormalFrom
normal-nothing ram = tt

from-push : (ram : ℕ → ℕ) (word w v : ℕ) (changes : List (ℕ × ℕ)) → AreNormalFrom ram word changes → word ≤ w
    → All (λ change. change.0 < w) changes → (v ≡ ram w → ⊥) → AreNormalFrom ram word (changes ++ (w, v) ∷ [])
unfolding AreNormalFrom
from-push ram word w v [] h le all differs = (le, differs, tt)
from-push ram word w v (c ∷ cs) h le all differs =
    let lt : c.0 < w = All-head (λ change. change.0 < w) c cs all in
    let le' : c.0 + 1 ≤ w = omega (arith, lt) in
    (h.0, h.1, from-push ram (c.0 + 1) w v cs h.2 le' (All-tail (λ change. change.0 < w) c cs all) differs)

-- one past the word before index k, where there is one
abbrev pub past : List ℕ → (k : ℕ) → ℕ
past words zero = 0
past words (suc k) = slice_index words k + 1

pub past-next : (words : List ℕ) (k : ℕ) → past words (k + 1) ≡ slice_index words k + 1
past-next words k = rw (add-one k) refl

-- where words ascend, and this one is another than the one before it, it is past that one
pub past-le : (words : List ℕ) (k : ℕ) → IsSorted nat_cmp words → k < length words
    → (0 < k → slice_index words (k - 1) ≡ slice_index words k → ⊥) → past words k ≤ slice_index words k
past-le words zero sorted lt other = omega arith
past-le words (suc k) sorted lt other =
    let le : k ≤ suc k = omega arith in
    let rises : slice_index words k ≤ slice_index words (suc k) =
    IsNonDecreasingBy-from_sort (λ x. x) words sorted k (suc k) 0 le lt in
    let e : suc k - 1 ≡ k = omega arith in
    let positive : 0 < suc k = omega arith in
    let apart : slice_index words k ≡ slice_index words (suc k) → ⊥ =
    subst (λ j. slice_index words j ≡ slice_index words (suc k) → ⊥) e (other positive) in
    omega (arith, rises, apart)

pub past-same : (words : List ℕ) (k : ℕ) → slice_index words (k - 1) ≡ slice_index words k → past words k ≤ slice_index words k + 1
past-same words zero same = omega arith
past-same words (suc k) same =
    let e : suc k - 1 ≡ k = omega arith in
    let same' : slice_index words k ≡ slice_index words (suc k) = subst (λ j. slice_index words j ≡ slice_index words (suc k)) e same in
    omega (arith, same')

-- changes so far, in their normal form, all of words before this one
pub record AreSoFar (ram : ℕ → ℕ) (words : List ℕ) (k : ℕ) (changes : List (ℕ × ℕ)) : Type 0 where
  pub normal : AreNormal ram changes
  pub before : All (λ change. change.0 < past words k) changes

pub so-far-nothing : (ram : ℕ → ℕ) (words : List ℕ) (k : ℕ) → AreSoFar ram words k []
so-far-nothing ram words k = record { normal = normal-nothing ram; before = All-nil (λ change. change.0 < past words k) }

-- a word that is like the one before it, or is as RAM has it
pub so-far-same : (ram : ℕ → ℕ) (words : List ℕ) (k : ℕ) (changes : List (ℕ × ℕ)) → past words k ≤ slice_index words k + 1
    → AreSoFar ram words k changes → AreSoFar ram words (k + 1) changes
so-far-same ram words k changes le h = record {
  normal = h.normal;
  before = All-weaker (λ change. change.0 < past words k) (λ change. change.0 < past words (k + 1))
      (λ change lt. let e : past words (k + 1) ≡ slice_index words k + 1 = past-next words k in omega (arith, lt, le, e))
      changes h.before;
}

-- a word with a value that RAM doesn't have
pub so-far-push : (ram : ℕ → ℕ) (words : List ℕ) (k v : ℕ) (changes : List (ℕ × ℕ)) → past words k ≤ slice_index words k
    → (v ≡ ram (slice_index words k) → ⊥) → AreSoFar ram words k changes
    → AreSoFar ram words (k + 1) (changes ++ (slice_index words k, v) ∷ [])
so-far-push ram words k v changes le differs h =
    let w = slice_index words k in
    let e : past words (k + 1) ≡ w + 1 = past-next words k in
    record {
      normal = from-push ram 0 w v changes h.normal (omega arith)
          (All-weaker (λ change. change.0 < past words k) (λ change. change.0 < w) (λ change lt. omega (arith, lt, le))
          changes h.before)
          differs;
      before = All-push (λ change. change.0 < past words (k + 1)) changes (w, v)
          (All-weaker (λ change. change.0 < past words k) (λ change. change.0 < past words (k + 1))
          (λ change lt. omega (arith, lt, le, e)) changes h.before)
          (omega (arith, e));
    }
