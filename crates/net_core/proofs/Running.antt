-- Runs of the rules: one more event; and a TID that no commit has.
use Rattle.std.proofs.Common.{◌≡◌, true, List, [], ◌∷◌, ◌++◌, Option, Some, None, ap, refl, ◌∙◌, arith, ℕ}
use Rattle.std.specs.Prelude.{◌==◌}
use Rattle.std.proofs.lemmas.Bool.Decides.{nat_tests}
use Rattle.tcc_base.specs.Settings.{Settings}
use Rattle.tcc_base.specs.declared.access.Commit.{Commit}
use Rattle.rules_maps.specs.Nodes.{Event}
use Rattle.rules_maps.specs.Words.{num}
use Rattle.rules_program.specs.Program.{Program}
use Rattle.rules_tcc.specs.State.{World}
use Rattle.rules_tcc.specs.Step.{History, and_then, next_history, run, run_from}
use Rattle.theorem_serial.specs.Owners.{times}
use Rattle.machine_commits.specs.Rising.{HasNone}

-- ---- one more event

pub after-all : (sh : Settings) (p : Program) (e : Event) (es : List Event) (h : History)
    → run_from sh p (es ++ e ∷ []) h ≡ and_then (λ g. next_history sh p g e) (run_from sh p es h)
unfolding run_from
after-all sh p e [] h = last (next_history sh p h e)
  where
    last : (o : Option History) → and_then (λ g. Some g) o ≡ o
    last None = refl
    last (Some g) = refl
after-all sh p e (x ∷ es) h = go (next_history sh p h x) (after-all sh p e es)
  where
    go : (o : Option History) →
        ((g : History) → run_from sh p (es ++ e ∷ []) g ≡ and_then (λ f. next_history sh p f e) (run_from sh p es g))
        → and_then (run_from sh p (es ++ e ∷ [])) o ≡ and_then (λ g. next_history sh p g e) (and_then (run_from sh p es) o)
    go None rest = refl
    go (Some g) rest = rest g

pub run-on : (sh : Settings) (p : Program) (w : World) (es : List Event) (e : Event) (h : History) → run sh p w es ≡ Some h
    → run sh p w (es ++ e ∷ []) ≡ next_history sh p h e
unfolding run
run-on sh p w es e h r = after-all sh p e es (record { world = w; commits = [] }) ∙ ap (and_then (λ g. next_history sh p g e)) r

-- ---- a TID that no commit has

pub none-among : (t : ℕ) (cs : List Commit) → times t cs ≡ 0 → HasNone t cs
unfolding times HasNone
none-among t [] e = tt
none-among t (c ∷ cs) e = (λ q. other q, none-among t cs (omega (arith, e)))
  where
    other : c.tid.0 ≡ t → ⊥
    other q = let same : (c.tid.0 == t) ≡ true = grind (arith, nat_tests) in
        let one : num (c.tid.0 == t) ≡ 1 = rw same refl in absurd (omega (arith, e, one))
