-- The commit of a TID in a list of commits.
use Rattle.std.proofs.Common.{◌≡◌, ℕ, Bool, true, false, List, [], ◌∷◌}
use Rattle.std.proofs.Common.{Option, Some, None, refl, ap, ◌∙◌, arith}
use Rattle.std.specs.Prelude.{nat_lt, ◌==◌, if◌then◌else◌}
use Rattle.std.proofs.lemmas.Bool.Decides.{nat_tests}
use Rattle.tcc_base.specs.declared.access.Commit.{Commit}
use Rattle.base_lemmas.proofs.Lemmas.{eq-self}
use Rattle.rules_maps.specs.Words.{or_else}
use Rattle.rules_tcc.specs.Step.{insert_commit}
use Rattle.machine_commits.specs.Rising.{HasNone}
use Rattle.watch.specs.Messages.{commit_of}

-- the commit, where its TID is this
abbrev if_named : (tid : ℕ) → Commit → Option Commit
if_named t c = if c.tid.0 == t then Some c else None

pub none-named : (t : ℕ) (cs : List Commit) → HasNone t cs → commit_of t cs ≡ None
unfolding commit_of HasNone
none-named t [] h = refl
none-named t (c ∷ cs) h = ap (λ o. or_else o (if_named t c)) (none-named t cs h.1) ∙ other (c.tid.0 == t) refl
  where
    other : (b : Bool) → (c.tid.0 == t) ≡ b → (if b then Some c else None) ≡ None
    other true e = absurd (h.0 (grind (arith, nat_tests)))
    other false e = refl

-- a commit that was put among others is found by its TID
pub inserted-named : (c : Commit) (cs : List Commit) → HasNone c.tid.0 cs → commit_of c.tid.0 (insert_commit c cs) ≡ Some c
unfolding commit_of insert_commit HasNone
inserted-named c [] h = rw (eq-self c.tid.0) refl
inserted-named c (d ∷ ds) h = by (nat_lt c.tid.0 d.tid.0) (inserted-named c ds h.1)
  where
    by : (b : Bool) → commit_of c.tid.0 (insert_commit c ds) ≡ Some c
        → commit_of c.tid.0 (if b then c ∷ d ∷ ds else d ∷ insert_commit c ds) ≡ Some c
    by true e = ap (λ o. or_else o (if_named c.tid.0 c)) (none-named c.tid.0 (d ∷ ds) h) ∙ rw (eq-self c.tid.0) refl
    by false e = ap (λ o. or_else o (if_named c.tid.0 d)) e
