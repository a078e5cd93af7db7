use Rattle.std.proofs.Common.{ap, ◌∙◌, length}
use Rattle.std.proofs.lemmas.List.{length-replicate}
use Rattle.serial_tool.specs.PlainTexts.{all_zero}
use Rattle.serial_tool.proofs.HeadReading.{zeros-zero}
use Rattle.serial_tool.proofs.restoring.zeros.Goals as goal

pub returns-in-Ok : goal.returns-in-Ok
returns-in-Ok c =
    let is = c.in-Ok.ensures.items_if_clones_equal (λ y e. e) in
    (ap length is ∙ length-replicate c.args.words 0, ap all_zero is ∙ zeros-zero c.args.words)
