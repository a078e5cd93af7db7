use Rattle.std.proofs.Common.{◌≡◌, ◌≤◌, ◌^◌, ◌++◌, length, drop}
use Rattle.std.specs.Prelude.{All}
use Rattle.image_elf.specs.Elf.{IsWithinSizes}
use Rattle.image_load.specs.Raw.{raw_images, raw_fault}
use Rattle.image_load.proofs.raw_files.raw.Given as goal

-- what is left to lay begins at `first`
abbrev pub invariant-loop-number : goal.invariant-loop-number
invariant-loop-number l = record {
  tested : raw_fault l.config 0 l.config.base l.files ≡ raw_fault l.config l.number l.first (drop l.number l.files);
  laid : raw_images l.config.base l.files ≡ l.images.items ++ raw_images l.first (drop l.number l.files);
  count : length l.images.items ≡ l.number;
  within : All IsWithinSizes l.images.items;
  from : l.config.base ≤ l.first;
  bound : l.first ≤ 2 ^ 33;
}
