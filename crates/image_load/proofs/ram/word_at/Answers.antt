use Rattle.std.proofs.Common.{◌∙◌, ap}
use Rattle.std.proofs.lemmas.List.{take_rest}
use Rattle.byteorder.specs.Endian.{little_number}
use Rattle.image_load.proofs.Words.{word_of-drop}
use Rattle.image_load.proofs.ram.word_at.Goals as goal

pub returns : goal.returns
returns c =
    c.read_u32.ensures
    ∙ ap (little_number 4) (take_rest c.args.ram.now c.args.place)
    ∙ word_of-drop c.args.ram.now c.args.place
