-- The lists are as they were before it was listed.
use Rattle.std.proofs.Common.{◌-◌, ◌%◌, ap, take, length, ◌∙◌}
use Rattle.std.specs.Prelude.{slice_set}
use Rattle.machine_links.specs.Subject.{bucket, with_listed}
use Rattle.machine_links.proofs.Listed.{taken-back}
use Rattle.machine_links.proofs.index.Index.take_back.Goals as goal

pub returns-in-Some : goal.returns-in-Some
returns-in-Some c = λ x was.
    let e = c.in-Some.entry in
    c.take_last.ensures
    ∙ ap (λ y. slice_set y (e.key % 4096) (take (length (bucket y e.key) - 1) (bucket y e.key)))
    (was ∙ ap (λ o. with_listed o x) c.in-Some.is)
    ∙ taken-back x e
