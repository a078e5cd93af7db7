-- What stands at that place of the key's list.
use Rattle.std.proofs.Common.{◌<◌, ◌≤◌, length, ap, arith, ◌∙◌}
use Rattle.std.specs.Prelude.{slice_get}
use Rattle.machine_links.specs.Subject.{bucket}
use Rattle.machine_links.proofs.Listed.{bucket-read, got, none-got}
use Rattle.machine_links.proofs.index.Index.get.Goals as goal

pub returns-then-i-len : goal.returns-then-i-len
returns-then-i-len c =
    let b = c.behind-self.inside.items in
    let list = c.behind-self.view_is
    ∙ bucket-read c.self.inside.lists.items c.args.key c.index.result.now c.self.invariant c.index.ensures
    ∙ ap (λ x. bucket x c.args.key) c.self.view_is in
    let lt : c.args.i < length b.items = omega (arith, c.if-i-len.true, c.len.ensures, b.ok) in
    got b.items c.args.i c.index-then-i-len.result.now lt c.index-then-i-len.ensures ∙ ap (λ l. slice_get l c.args.i) list

pub returns-else-i-len : goal.returns-else-i-len
returns-else-i-len c =
    let b = c.behind-self.inside.items in
    let list = c.behind-self.view_is
    ∙ bucket-read c.self.inside.lists.items c.args.key c.index.result.now c.self.invariant c.index.ensures
    ∙ ap (λ x. bucket x c.args.key) c.self.view_is in
    let le : length b.items ≤ c.args.i = omega (arith, c.if-i-len.false, c.len.ensures, b.ok) in
    none-got b.items c.args.i le ∙ ap (λ l. slice_get l c.args.i) list
