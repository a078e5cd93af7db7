use Rattle.std.proofs.Common.{ap, ◌∙◌}
use Rattle.std.proofs.lemmas.List.{take_rest}
use Rattle.byteorder.specs.Endian.{little_number}
use Rattle.image_elf.specs.Elf.{half_at}
use Rattle.image_elf.proofs.header.half_at.Goals as goal

-- what is read is the rest of the file, whole
pub returns : goal.returns
unfolding half_at
returns c = c.read_u16.ensures ∙ ap (little_number 2) (take_rest c.args.file.now c.args.at)
