-- It stands above the last of them, and so above all.
use Rattle.std.proofs.Common.{◌≡◌, ℕ, suc, ◌-◌, ◌<◌, List, [], ◌∷◌, ◌++◌, length, Some, None}
use Rattle.std.proofs.Common.{ap, refl, sym, ◌∙◌, subst, arith}
use Rattle.std.specs.Prelude.{slice_get}
use Rattle.std.proofs.lemmas.Bool.Decides.{nat_tests}
use Rattle.tcc_base.specs.declared.access.Commit.{Commit}
use Rattle.machine_commits.specs.Rising.{RisesFrom, Rising}
use Rattle.machine_commits.proofs.list.is_above.Goals as goal

-- above the last of some
on-top : (last : ℕ) (d : Commit) (ds : List Commit) (c : Commit) → RisesFrom last (d ∷ ds)
    → ((e : Commit) → slice_get (d ∷ ds) (length ds) ≡ Some e → e.tid.0 < c.tid.0) → RisesFrom last ((d ∷ ds) ++ c ∷ [])
unfolding RisesFrom
on-top last d [] c r above = (r.0, (above d (cc), tt))
on-top last d (e ∷ es) c r above = (r.0, on-top d.tid.0 e es c r.1 (λ x at. above x at))

rising-more : (cs : List Commit) (c : Commit) → Rising cs
    → ((e : Commit) → slice_get cs (length cs - 1) ≡ Some e → e.tid.0 < c.tid.0) → Rising (cs ++ c ∷ [])
unfolding Rising RisesFrom
rising-more [] c r above = tt
rising-more (d ∷ []) c r above = (above d (cc), tt)
rising-more (d ∷ e ∷ es) c r above =
    let last : suc (length es) ≡ length (d ∷ e ∷ es) - 1 = omega arith in
    on-top d.tid.0 e es c r (λ x at. above x (subst (λ k. slice_get (d ∷ e ∷ es) k ≡ Some x) last at))

-- the last of some that rise to one more is below that
last-below : (last : ℕ) (d : Commit) (ds : List Commit) (c e : Commit) → RisesFrom last ((d ∷ ds) ++ c ∷ [])
    → slice_get (d ∷ ds) (length ds) ≡ Some e → e.tid.0 < c.tid.0
unfolding RisesFrom
last-below last d [] c e r at = let same : d ≡ e = cc in subst (λ (k : Commit). k.tid.0 < c.tid.0) same r.1.0
last-below last d (f ∷ fs) c e r at = last-below d.tid.0 f fs c e r.1 at

rising-last : (cs : List Commit) (c e : Commit) → Rising (cs ++ c ∷ [])
    → slice_get cs (length cs - 1) ≡ Some e → e.tid.0 < c.tid.0
unfolding Rising RisesFrom
rising-last [] c e r at = absurd cc
rising-last (d ∷ []) c e r at = let same : d ≡ e = cc in subst (λ (k : Commit). k.tid.0 < c.tid.0) same r.0
rising-last (d ∷ f ∷ fs) c e r at =
    let last : length (d ∷ f ∷ fs) - 1 ≡ suc (length fs) = omega arith in
    last-below d.tid.0 f fs c e r (subst (λ k. slice_get (d ∷ f ∷ fs) k ≡ Some e) last at)

empty : (cs : List Commit) → slice_get cs (length cs - 1) ≡ None → cs ≡ []
empty [] e = refl
empty (c ∷ cs) e = absurd (past cs c (subst (λ k. slice_get (c ∷ cs) k ≡ None) (omega arith) e))
  where
    past : (cs : List Commit) (c : Commit) → slice_get (c ∷ cs) (length cs) ≡ None → ⊥
    past [] c e = cc
    past (d ∷ ds) c e = past ds d e

pub returns-in-Some : goal.returns-in-Some
returns-in-Some c = λ x e. (
  λ t. rising-more c.args.commits.now x c.requires (λ d at.
      let same : Some c.in-Some.last.now ≡ Some d = c.in-Some.ensures.value ∙ at in
      let is : c.in-Some.last.now ≡ d = cc in
      let below : c.in-Some.last.now.tid.0 < c.args.tid.0 = grind (arith, nat_tests) in
      omega (arith, below, e, ap (λ (k : Commit). k.tid.0) is)),
  λ rising.
      let last = c.in-Some.last.now in
      let less : last.tid.0 < x.tid.0 = rising-last c.args.commits.now x last rising (sym c.in-Some.ensures.value) in
      let below : last.tid.0 < c.args.tid.0 = omega (arith, less, e) in
      grind (arith, nat_tests),
)

pub returns-in-None : goal.returns-in-None
unfolding Rising RisesFrom
returns-in-None c = λ x e.
    let none = empty c.args.commits.now (sym c.in-None.ensures.value) in
    (λ t. subst (λ cs. Rising (cs ++ x ∷ [])) (sym none) tt, λ r. refl)
