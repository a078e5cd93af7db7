use Rattle.std.proofs.Common.{◌≡◌, ◌∙◌, ap, is_some, ◌%◌, eq-eqb}
use Rattle.image_load.specs.Contents.{code_place}
use Rattle.image_load.specs.Overlap.{segments_laid}
use Rattle.image_load.proofs.Memory.{code_place-is_some}
use Rattle.image_load.proofs.layout.Layout.is_entry.Goals as goal

pub returns-then-entry-eq0 : goal.returns-then-entry-eq0
returns-then-entry-eq0 c = λ earlier laid.
    let self = c.args.self.now in
    let aligned = eq-eqb (c.args.entry % 4) 0 c.if-entry-eq0.true in
    let found : c.is_some.result ≡ is_some (code_place self.config.base self.code.items c.args.entry)
    = c.is_some.ensures
    ∙ ap is_some c.code_place.ensures.value
    ∙ ap (λ base. is_some (code_place base c.deref.result.now c.args.entry)) c.base.ensures.value
    ∙ ap (λ code. is_some (code_place self.config.base code c.args.entry)) c.deref.ensures.value in
    rw aligned (found ∙ code_place-is_some self.config.base self.bytes.items self.taken.items self.code.items
    (segments_laid earlier) c.args.entry laid.filled)
