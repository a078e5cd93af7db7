use Rattle.image_elf.specs.Elf.{header_at}
use Rattle.image_elf.proofs.header.ProgramHeader.read.Goals as goal

pub returns : goal.returns
unfolding header_at
returns c = cc
