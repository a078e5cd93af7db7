-- The commit of a TID, looked for from the last on.
use Rattle.std.proofs.Common.{◌≡◌, ℕ, zero, suc, ◌-◌, ◌<◌, Bool, true, false, List, [], ◌∷◌, length, drop}
use Rattle.std.proofs.Common.{Option, Some, None, refl, ap, sym, ◌∙◌, arith}
use Rattle.std.specs.Prelude.{get_or, ◌==◌, if◌then◌else◌}
use Rattle.std.proofs.Math.Seq.{drop-length}
use Rattle.std.proofs.lemmas.Bool.Decides.{nat_tests}
use Rattle.tcc_base.specs.declared.access.Commit.{Commit}
use Rattle.rules_maps.specs.Words.{or_else}
use Rattle.watch.specs.Messages.{commit_of}

-- the commit, where its TID is this
abbrev if_named : (tid : ℕ) → Commit → Option Commit
if_named t c = if c.tid.0 == t then Some c else None

pub none-of_none : (t : ℕ) (cs : List Commit) → commit_of t (drop (length cs) cs) ≡ None
unfolding commit_of
none-of_none t cs = ap (commit_of t) (drop-length cs)

-- it stands at place k
pub record StandsAt (cs : List Commit) (k : ℕ) (c : Commit) : Type 0 where
  pub inside : k < length cs
  pub is : c ≡ get_or cs k c

drop-at : (cs : List Commit) (k : ℕ) (c : Commit) → k < length cs → c ≡ get_or cs k c → drop k cs ≡ c ∷ drop (suc k) cs
drop-at [] k c l e = absurd (omega (arith, l))
drop-at (d ∷ cs) zero c l e = ap (λ x. x ∷ cs) (sym e)
drop-at (d ∷ cs) (suc k) c l e = drop-at cs k c (omega (arith, l)) e

-- none behind this one, and this one isn't it either
pub none-behind : (t : ℕ) (cs : List Commit) (k : ℕ) (c : Commit) → StandsAt cs k c → (c.tid.0 == t) ≡ false
    → commit_of t (drop (suc k) cs) ≡ None → commit_of t (drop k cs) ≡ None
unfolding commit_of
none-behind t cs k c at other none =
    ap (commit_of t) (drop-at cs k c at.inside at.is) ∙ ap (λ o. or_else o (if_named t c)) none ∙ rw other refl

-- this one is it, and none behind it
at-last : (t : ℕ) (cs : List Commit) (k : ℕ) (c : Commit) → StandsAt cs k c → (c.tid.0 == t) ≡ true
    → commit_of t (drop (suc k) cs) ≡ None → commit_of t (drop k cs) ≡ Some c
unfolding commit_of
at-last t cs k c at same none =
    ap (commit_of t) (drop-at cs k c at.inside at.is) ∙ ap (λ o. or_else o (if_named t c)) none ∙ rw same refl

-- what is found in the rest is found in all
found-in : (t : ℕ) (cs : List Commit) (k : ℕ) (c : Commit) → commit_of t (drop k cs) ≡ Some c → commit_of t cs ≡ Some c
unfolding commit_of
found-in t cs zero c e = e
found-in t [] (suc k) c e = absurd (cc)
found-in t (d ∷ cs) (suc k) c e = ap (λ o. or_else o (if_named t d)) (found-in t cs k c e)

pub found-last : (t : ℕ) (cs : List Commit) (k : ℕ) (c : Commit) → StandsAt cs k c → (c.tid.0 == t) ≡ true
    → commit_of t (drop (suc k) cs) ≡ None → commit_of t cs ≡ Some c
found-last t cs k c at same none = found-in t cs k c (at-last t cs k c at same none)

-- a number above zero
before : (k : ℕ) → 0 < k → suc (k - 1) ≡ k
before k l = omega (arith, l)

pub found-here : (t : ℕ) (cs : List Commit) (k : ℕ) (c : Commit) → 0 < k → StandsAt cs (k - 1) c → c.tid.0 ≡ t
    → commit_of t (drop k cs) ≡ None → commit_of t cs ≡ Some c
found-here t cs k c l at same none =
    found-last t cs (k - 1) c at (grind (arith, nat_tests)) (ap (λ j. commit_of t (drop j cs)) (before k l) ∙ none)

pub not-here : (t : ℕ) (cs : List Commit) (k : ℕ) (c : Commit) → 0 < k → StandsAt cs (k - 1) c → (c.tid.0 ≡ t → ⊥)
    → commit_of t (drop k cs) ≡ None → commit_of t (drop (k - 1) cs) ≡ None
not-here t cs k c l at other none =
    none-behind t cs (k - 1) c at (differs c.tid.0 t other) (ap (λ j. commit_of t (drop j cs)) (before k l) ∙ none)
  where
    differs : (a b : ℕ) → (a ≡ b → ⊥) → (a == b) ≡ false
    differs a b h = by (a == b) refl
      where
        by : (x : Bool) → (a == b) ≡ x → x ≡ false
        by true e = absurd (h (grind (arith, nat_tests)))
        by false e = refl
