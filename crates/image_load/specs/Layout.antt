-- RAM while images are laid into it.
use Rattle.std.specs.Prelude.{◌≡◌, List}
use Rattle.image_elf.specs.declared.image.Segment.{Segment}
use Rattle.image_load.specs.Overlap.{Laid, segments_laid, extents_laid}
use Rattle.image_load.specs.Filled.{IsFilled}
use Rattle.image_load.specs.declared.layout.Layout.{Layout}

-- RAM holds what these segments put into memory
abbrev pub HasFilled : Layout → List Segment → Type 0
HasFilled layout segments =
    IsFilled layout.config.base layout.bytes.items layout.taken.items layout.code.items segments

-- the layout has gone through these segments, and no others
pub record IsLaid (layout : Layout) (earlier : List Laid) : Type 0 where
  pub filled : HasFilled layout (segments_laid earlier)
  pub extents : layout.extents.items ≡ extents_laid earlier
