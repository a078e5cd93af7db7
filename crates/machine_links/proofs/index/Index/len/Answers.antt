-- As many as stand in the list of the key.
use Rattle.std.proofs.Common.{◌≡◌, length, ap, arith, ◌∙◌}
use Rattle.machine_links.specs.Subject.{bucket}
use Rattle.machine_links.proofs.Listed.{bucket-read}
use Rattle.machine_links.proofs.index.Index.len.Goals as goal

pub returns : goal.returns
returns c =
    let list = c.behind-self.view_is
    ∙ bucket-read c.self.inside.lists.items c.args.key c.index.result.now c.self.invariant c.index.ensures
    ∙ ap (λ x. bucket x c.args.key) c.self.view_is in
    let many : c.len.result ≡ length c.behind-self.inside.items.items = omega (arith, c.len.ensures, c.behind-self.inside.items.ok) in
    many ∙ ap length list
