-- The first fault of images that are laid into RAM in order, the segments of each in order and then its entry.
use Rattle.std.specs.Prelude.{ℕ, ◌+◌, ◌%◌, Bool, ◌&&◌, ◌||◌, ◌==◌, nat_le, if◌then◌else◌, List, [], ◌∷◌, ◌++◌, Option, Some, None}
use Rattle.std.specs.List.{find}
use Rattle.std.specs.Option.{option_or}
use Rattle.tcc_base.specs.Settings.{Settings}
use Rattle.image_elf.specs.declared.image.Image.{Image}
use Rattle.image_elf.specs.declared.image.Segment.{Segment}
use Rattle.image_load.specs.declared.extent.Extent.{Extent}
use Rattle.image_load.specs.declared.fault.LoadFault.{LoadFault}
use Rattle.image_load.specs.declared.fault.LoadFault.TheVariants.{Outside, Overlap, Entry}
use Rattle.image_load.specs.Memory.{is_code, all_four}
use Rattle.image_load.specs.Overlap.{Laid, laid, segments_laid, extent_of, extents_laid, shares_byte}

-- the segment lies wholly in RAM; one of size 0 always does
abbrev pub is_in_ram : Settings → Segment → Bool
is_in_ram settings segment =
    segment.size == 0
    || (nat_le settings.base segment.addr && nat_le (segment.addr + segment.size) (settings.base + settings.ram))

-- the earliest of the earlier segments that shares a byte is the other
abbrev pub overlap : ℕ → Segment → Option Extent → Option LoadFault
overlap image segment None = None
overlap image segment (Some other) = Some (Overlap image segment.index other.image other.segment)

unfoldable pub segment_fault : Settings → ℕ → List Laid → Segment → Option LoadFault
segment_fault settings image earlier segment =
    if is_in_ram settings segment
    then overlap image segment (find (shares_byte (extent_of image segment)) (extents_laid earlier))
    else Some (Outside image segment.index)

unfoldable pub segments_fault : Settings → ℕ → List Laid → List Segment → Option LoadFault
segments_fault settings image earlier [] = None
segments_fault settings image earlier (segment ∷ segments) =
    option_or
    (segment_fault settings image earlier segment)
    (segments_fault settings image (earlier ++ laid image (segment ∷ [])) segments)

-- an entry is a multiple of four, and its four bytes are code
abbrev pub is_entry : List Segment → ℕ → Bool
is_entry segments entry = entry % 4 == 0 && all_four (is_code segments) entry

unfoldable pub image_fault : Settings → ℕ → List Laid → Image → Option LoadFault
image_fault settings number earlier image =
    option_or
    (segments_fault settings number earlier image.segments)
    (if is_entry (segments_laid (earlier ++ laid number image.segments)) image.entry
    then None
    else Some (Entry number))

unfoldable pub images_fault : Settings → ℕ → List Laid → List Image → Option LoadFault
images_fault settings number earlier [] = None
images_fault settings number earlier (image ∷ images) =
    option_or
    (image_fault settings number earlier image)
    (images_fault settings (number + 1) (earlier ++ laid number image.segments) images)

-- the first fault of images
abbrev pub load_fault : Settings → List Image → Option LoadFault
load_fault settings images = images_fault settings 0 [] images
