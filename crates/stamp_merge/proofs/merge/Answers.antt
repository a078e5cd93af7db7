use Rattle.std.proofs.Common.{◌∙◌, ap, subst}
use Rattle.stamp_merge.specs.Merging.{AreByStamp}
use Rattle.stamp_merge.proofs.Sorting.Laid.{laid}
use Rattle.stamp_merge.proofs.Sorting.Merged.{merged}
use Rattle.stamp_merge.proofs.merge.Goals as goal

pub returns-in-Ok-clause-merged : goal.returns-in-Ok-clause-merged
returns-in-Ok-clause-merged c =
    merged c.args.logs.now.config c.args.logs.now.by_node c.requires.logs c.in-Ok.items.items
    (subst (λ l. AreByStamp (laid l) c.in-Ok.items.items) (c.deref.ensures.value ∙ ap (λ l. l.by_node) c.logs.view_is) c.in-Ok.ensures)
