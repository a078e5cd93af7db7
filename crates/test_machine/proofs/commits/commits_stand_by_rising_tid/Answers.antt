use Rattle.std.proofs.Common.{◌≡◌, ◌≢◌, [], ◌∷◌, ◌∙◌, ap, arith}
use Rattle.rules_tcc.specs.Step.{insert_commit}
use Rattle.machine_commits.specs.Rising.{HasNone}
use Rattle.test_machine.proofs.commits.commits_stand_by_rising_tid.Goals as goal

pub insert-requires-clause-new : goal.insert-requires-clause-new
unfolding HasNone
insert-requires-clause-new g c =
    let none : c.reserve.new.self.list ≡ [] = c.reserve.ensures.unchanged ∙ c.new-list.ensures in
    rw none tt

pub insert-requires-2-clause-new : goal.insert-requires-2-clause-new
unfolding HasNone insert_commit
insert-requires-2-clause-new g c =
    let none : c.reserve.new.self.list ≡ [] = c.reserve.ensures.unchanged ∙ c.new-list.ensures in
    let one : c.reserve-2.new.self.list ≡ c.in_ok-commit.field-0 ∷ [] =
    c.reserve-2.ensures.unchanged ∙ (c.insert.ensures ∙ ap (λ xs. insert_commit c.in_ok-commit.field-0 xs) none) in
    let other : c.in_ok-commit.field-0.tid.0 ≢ c.in_ok-commit-2.field-0.tid.0 =
    omega (arith, c.in_ok-commit.ensures, c.in_ok-commit-2.ensures) in
    rw one (other, tt)
