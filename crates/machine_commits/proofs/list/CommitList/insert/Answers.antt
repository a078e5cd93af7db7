use Rattle.std.proofs.Common.{◌≡◌, refl, sym, ap, ◌∙◌}
use Rattle.std.specs.List.{insert}
use Rattle.rules_tcc.specs.Step.{insert_commit}
use Rattle.machine_commits.proofs.Lemmas.{Rising-insert}
use Rattle.machine_commits.proofs.list.CommitList.insert.Goals as goal

pub invariant_of-self : goal.invariant_of-self
invariant_of-self c =
    let commit = c.args.commit in
    let before = c.self.inside.commits.items in
    let items : c.insert.new.self.items ≡ insert_commit commit before =
    c.in-Ok.ensures.items
    ∙ (ap (λ xs. insert xs c.place_for-at.result commit) (sym c.deref.ensures.value)
    ∙ (sym (c.place_for-at.ensures.place commit refl) ∙ ap (λ xs. insert_commit commit xs) c.deref.ensures.value)) in
    rw items (Rising-insert commit before c.self.invariant (rw (ap (λ s. s.list) c.self.view_is) c.requires.new))
