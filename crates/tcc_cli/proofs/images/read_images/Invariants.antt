use Rattle.std.proofs.Common.{◌≡◌, map, take, drop}
use Rattle.std.specs.Prelude.{All}
use Rattle.image_elf.specs.Elf.{IsWithinSizes, image_of}
use Rattle.tcc_cli.specs.Images.{elf_fault}
use Rattle.tcc_cli.proofs.images.read_images.Given as goal

abbrev pub invariant-loop-number : goal.invariant-loop-number
invariant-loop-number l = record {
  images : l.images.items ≡ map image_of (take l.number l.files);
  within : All IsWithinSizes l.images.items;
  tested : elf_fault 0 l.files ≡ elf_fault l.number (drop l.number l.files);
}
