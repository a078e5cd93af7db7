use Rattle.std.proofs.Common.{◌≡◌, ◌%◌, ◌<◌, length, get_or, arith, ap, ◌∙◌}
use Rattle.std.proofs.lemmas.List.{get_or_read}
use Rattle.image_load.specs.Contents.{started}
use Rattle.image_load.proofs.loaded.Loaded.entry.Goals as goal

pub returns : goal.returns
unfolding started
returns c =
    let entries = c.self.inside.entries.items in
    let count : c.len.result ≡ length entries = omega arith in
    let below : c.args.core.0 % c.len.result < length entries = omega arith in
    let read = get_or_read entries (c.args.core.0 % c.len.result) c.index.result.now below c.index.ensures 0 in
    rw (← c.self.view_is) (read ∙ ap (λ n. get_or entries (c.args.core.0 % n) 0) count)
