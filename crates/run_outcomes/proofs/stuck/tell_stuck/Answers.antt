use Rattle.std.proofs.Common.{ℕ, ◌≡◌, ◌∙◌, Bool, false, List, length, slice_index_or, ap, subst}
use Rattle.run_outcomes.proofs.Marking.{marks-none, unmarked-cannot, cannot-unmarked}
use Rattle.run_outcomes.proofs.Tallies.{many-same, first-same}
use Rattle.run_outcomes.specs.HowMany.{HowMany, IsFirst}
use Rattle.run_outcomes.specs.Stuck.{CannotEnd}
use Rattle.run_outcomes.specs.declared.stuck.Marks.{Marks}
use Rattle.run_outcomes.proofs.stuck.tell_stuck.Goals as goal

pub mark_all-requires : goal.mark_all-requires
mark_all-requires c =
    let e = c.args.explored.now in
    marks-none e.loaded e.states e.edges (length e.states) c.in_ok-marks.marks (c.in_ok-marks.ensures.sized ∙ c.len.ensures)
    c.in_ok-marks.ensures.none c.in_ok-marks.ensures.waiting

pub returns-clause-count : goal.returns-clause-count
returns-clause-count c =
    let e = c.args.explored.now in
    let m = c.mark_all.new.marks in
    let h = c.in_ok-mark_all.ensures.marks in
    let P : ℕ → Type 0 = λ k. slice_index_or m.marked k false ≡ false in
    let is : c.deref.result.now ≡ m.marked = c.deref.ensures.value ∙ ap (λ (x : Marks). x.marked) c.marks.view_is in
    let counted = subst (λ (xs : List Bool). HowMany (λ k. slice_index_or xs k false ≡ false) (length xs) c.tell_unmarked.result.count)
    is c.tell_unmarked.ensures.count in
    many-same P (CannotEnd e.loaded e.states) (length e.states) c.tell_unmarked.result.count
    (unmarked-cannot e.loaded e.states e.edges m c.mark_all.ensures.found c.mark_all.ensures.right (c.mark_all.ensures.all c.requires) h
    c.in_ok-mark_all.ensures.none)
    (cannot-unmarked e.loaded e.states e.edges m h) (subst (λ n. HowMany P n c.tell_unmarked.result.count) h.sized counted)

pub returns-clause-first : goal.returns-clause-first
returns-clause-first c =
    let e = c.args.explored.now in
    let m = c.mark_all.new.marks in
    let h = c.in_ok-mark_all.ensures.marks in
    let P : ℕ → Type 0 = λ k. slice_index_or m.marked k false ≡ false in
    let is : c.deref.result.now ≡ m.marked = c.deref.ensures.value ∙ ap (λ (x : Marks). x.marked) c.marks.view_is in
    let told = subst (λ (xs : List Bool). IsFirst (λ k. slice_index_or xs k false ≡ false) (length xs) c.tell_unmarked.result.first)
    is c.tell_unmarked.ensures.first in
    first-same P (CannotEnd e.loaded e.states) (length e.states) c.tell_unmarked.result.first
    (unmarked-cannot e.loaded e.states e.edges m c.mark_all.ensures.found c.mark_all.ensures.right (c.mark_all.ensures.all c.requires) h
    c.in_ok-mark_all.ensures.none)
    (cannot-unmarked e.loaded e.states e.edges m h) (subst (λ n. IsFirst P n c.tell_unmarked.result.first) h.sized told)
