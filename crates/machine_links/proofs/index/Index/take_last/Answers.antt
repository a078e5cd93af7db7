-- The last one of the key's list is gone.
use Rattle.std.proofs.Common.{◌-◌, ◌%◌, ap, take, length, ◌∙◌}
use Rattle.std.specs.Prelude.{slice_set}
use Rattle.machine_links.specs.Subject.{bucket}
use Rattle.machine_links.proofs.Listed.{bucket-read}
use Rattle.machine_links.proofs.index.Index.take_last.Goals as goal

pub returns : goal.returns
returns c =
    let at = c.args.key % 4096 in
    ap (λ b. slice_set c.self.inside.lists.items at b) (c.pop.ensures.rest ∙ ap (λ b. take (length b - 1) b)
    (bucket-read c.self.inside.lists.items c.args.key c.index_mut.result.now c.self.invariant c.index_mut.ensures.value))
    ∙ ap (λ x. slice_set x at (take (length (bucket x c.args.key) - 1) (bucket x c.args.key))) c.self.view_is
