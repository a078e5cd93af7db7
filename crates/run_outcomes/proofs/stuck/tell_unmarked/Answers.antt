use Rattle.std.proofs.Common.{ℕ, ◌≡◌, ◌+◌, false, slice_index_or, sym, subst, ◌∙◌, arith}
use Rattle.std.proofs.lemmas.Bool.{false≢true}
use Rattle.run_outcomes.proofs.Tallies.{none-yet, one-more, no-more, first-more, first-no-more}
use Rattle.run_outcomes.specs.HowMany.{HowMany, IsFirst}
use Rattle.run_outcomes.proofs.stuck.tell_unmarked.Goals as goal
use Rattle.run_outcomes.proofs.stuck.tell_unmarked.Goals.{then-not-is_marked, else-not-is_marked}

pub loop-k-init : goal.loop-k-init
loop-k-init c =
    (none-yet (λ (j : ℕ). slice_index_or c.args.marked.now j false ≡ false), λ k lt unmarked. absurd (omega (arith, lt)), omega arith)

pub loop-k-preserved : goal.loop-k-preserved
loop-k-preserved c =
    let P : ℕ → Type 0 = λ j. slice_index_or c.args.marked.now j false ≡ false in
    let k = c.loop-k.k in
    let inv = c.loop-k.invariant in
    elim c.if-not-is_marked.branch [
      | then-not-is_marked w ↦
          let is : P k = w.if-not-is_marked.true in (
            subst (HowMany P (k + 1)) (sym w.count-is) (one-more P k c.loop-k.count is inv.0),
            subst (IsFirst P (k + 1)) (sym (w.first-is ∙ w.first_of-first.ensures)) (first-more P k c.loop-k.first is inv.1),
            omega (arith, w.count-is, inv.2),
          )
      | else-not-is_marked w ↦
          let not' : P k → ⊥ = λ unmarked. false≢true (sym unmarked ∙ w.if-not-is_marked.false) in (
            subst (HowMany P (k + 1)) (sym w.count-is) (no-more P k c.loop-k.count not' inv.0),
            subst (IsFirst P (k + 1)) (sym w.first-is) (first-no-more P k c.loop-k.first not' inv.1),
            omega (arith, w.count-is, inv.2),
          )
    ]
