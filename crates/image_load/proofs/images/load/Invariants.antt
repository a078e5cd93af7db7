use Rattle.std.proofs.Common.{◌≡◌, [], take, drop}
use Rattle.image_load.specs.Faults.{images_fault}
use Rattle.image_load.specs.Layout.{IsLaid}
use Rattle.image_load.specs.Start.{entries_of}
use Rattle.image_load.proofs.LaidImages.{laid_all}
use Rattle.image_load.proofs.images.load.Given as goal

-- the images so far are laid, and the first fault is that of those that are left
abbrev pub invariant-loop-number : goal.invariant-loop-number
invariant-loop-number l = record {
  config : l.layout.config ≡ l.config;
  is_laid : IsLaid l.layout (laid_all 0 (take l.number l.images));
  left : images_fault l.config 0 [] l.images ≡ images_fault l.config l.number (laid_all 0 (take l.number l.images))
      (drop l.number l.images);
  entries : l.entries.items ≡ entries_of (take l.number l.images);
}
